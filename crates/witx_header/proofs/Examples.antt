-- Computed examples of a header: a literal, a comment, WASI's clock subscription and its choice of subscriptions with the numbers
-- that wasi-libc's header asserts of them, an enum, flags, the import of a call, and a caller's side.
use Rattle.std.specs.Prelude.{◌≡◌, refl, [], ◌∷◌, false, codes}
use Rattle.std.specs.Fmt.{digits}
use Rattle.std.specs.Str.{chars}
use Rattle.witx_base.specs.Texts.{same_text}
use Rattle.witx_ast.specs.declared.types.BuiltinType.{BuiltinType}
use Rattle.witx_ast.specs.declared.types.IntRepr.{IntRepr}
use Rattle.witx_ast.specs.declared.types.RecordKind.{RecordKind}
use Rattle.witx_ast.specs.declared.function.Abi.{Abi}
use Rattle.witx_ast.specs.Tree.{Tree, Fields, Arms}
use Rattle.witx_ast.specs.Functions.{FunctionTree}
use Rattle.witx_machine.specs.declared.surface.WasmType.{WasmType}
use Rattle.witx_header.specs.CNames.{comment, literal, member_name}
use Rattle.witx_header.specs.Bodies.{body_lines}
use Rattle.witx_header.specs.Headers.{prototype}
use Rattle.witx_header.specs.Typedefs.{header_typename_lines}

a_quote : literal (codes "a\"b") ≡ codes "\"a\\042b\""
a_quote = refl

a_number : member_name (codes "0-1") ≡ codes "_0_1"
a_number = refl

a_comment : comment [] (codes "a */ b\nc") ≡ codes "/**\n * a * / b\n * c\n */\n"
unfolding chars lib.Utf8.encode
a_comment = refl

abbrev timestamp : Tree
timestamp = Tree.named (codes "timestamp") (Tree.builtin BuiltinType.U64) []

abbrev clock : Tree
clock = Tree.record_of RecordKind.Other
    (Fields.field (codes "id") (Tree.named (codes "clockid") (Tree.variant_of IntRepr.U32 Arms.no_arms) []) []
    (Fields.field (codes "timeout") timestamp []
    (Fields.field (codes "precision") timestamp []
    (Fields.field (codes "flags") (Tree.named (codes "subclockflags") (Tree.record_of (RecordKind.Bitflags IntRepr.U16) Fields.no_fields) []) [] Fields.no_fields))))

a_record : header_typename_lines (codes "subscription_clock") clock [] ≡ codes "typedef struct __wasi_subscription_clock_t {\n    __wasi_clockid_t id;\n    __wasi_timestamp_t timeout;\n    __wasi_timestamp_t precision;\n    __wasi_subclockflags_t flags;\n} __wasi_subscription_clock_t;\n_Static_assert(sizeof(__wasi_subscription_clock_t) == 32, \"size\");\n_Static_assert(_Alignof(__wasi_subscription_clock_t) == 8, \"alignment\");\n_Static_assert(offsetof(__wasi_subscription_clock_t, id) == 0, \"offset\");\n_Static_assert(offsetof(__wasi_subscription_clock_t, timeout) == 8, \"offset\");\n_Static_assert(offsetof(__wasi_subscription_clock_t, precision) == 16, \"offset\");\n_Static_assert(offsetof(__wasi_subscription_clock_t, flags) == 24, \"offset\");\n\n"
unfolding digits
a_record = refl

abbrev readwrite : Tree
readwrite = Tree.named (codes "subscription_fd_readwrite") (Tree.record_of RecordKind.Other (Fields.field (codes "file_descriptor") (Tree.named (codes "fd") Tree.handle []) [] Fields.no_fields)) []

a_variant : header_typename_lines (codes "subscription_u")
    (Tree.variant_of IntRepr.U8 (Arms.carries (codes "clock") (Tree.named (codes "subscription_clock") clock []) [] (Arms.carries (codes "fd_read") readwrite [] (Arms.carries (codes "fd_write") readwrite [] Arms.no_arms)))) []
    ≡ codes "typedef struct __wasi_subscription_u_t {\n    uint8_t tag;\n    union {\n        __wasi_subscription_clock_t clock;\n        __wasi_subscription_fd_readwrite_t fd_read;\n        __wasi_subscription_fd_readwrite_t fd_write;\n    } u;\n} __wasi_subscription_u_t;\n#define __WASI_SUBSCRIPTION_U_CLOCK UINT8_C(0)\n#define __WASI_SUBSCRIPTION_U_FD_READ UINT8_C(1)\n#define __WASI_SUBSCRIPTION_U_FD_WRITE UINT8_C(2)\n_Static_assert(sizeof(__wasi_subscription_u_t) == 40, \"size\");\n_Static_assert(_Alignof(__wasi_subscription_u_t) == 8, \"alignment\");\n_Static_assert(offsetof(__wasi_subscription_u_t, u) == 8, \"offset\");\n\n"
unfolding digits
a_variant = refl

an_enum : header_typename_lines (codes "whence") (Tree.variant_of IntRepr.U8 (Arms.bare (codes "set") [] (Arms.bare (codes "cur") [] Arms.no_arms))) []
    ≡ codes "typedef uint8_t __wasi_whence_t;\n#define __WASI_WHENCE_SET UINT8_C(0)\n#define __WASI_WHENCE_CUR UINT8_C(1)\n_Static_assert(sizeof(__wasi_whence_t) == 1, \"size\");\n_Static_assert(_Alignof(__wasi_whence_t) == 1, \"alignment\");\n\n"
unfolding digits
an_enum = refl

an_import : prototype (codes "wasi_snapshot_preview1") (codes "fd_seek") (WasmType.I32 ∷ WasmType.I64 ∷ WasmType.I32 ∷ WasmType.I32 ∷ []) (WasmType.I32 ∷ []) false
    ≡ codes "int32_t __imported_wasi_snapshot_preview1_fd_seek(int32_t arg0, int64_t arg1, int32_t arg2, int32_t arg3) __attribute__((\n    __import_module__(\"wasi_snapshot_preview1\"),\n    __import_name__(\"fd_seek\")\n));\n\n"
unfolding digits
an_import = refl

-- a call with a list, a result that is stored, and an error
abbrev size : Tree
size = Tree.named (codes "size") (Tree.builtin (BuiltinType.U32 false)) []

abbrev errno : Tree
errno = Tree.named (codes "errno") (Tree.variant_of IntRepr.U8 (Arms.bare (codes "success") [] (Arms.bare (codes "full") [] Arms.no_arms))) []

abbrev write : FunctionTree
write = record {
  abi = Abi.Preview1;
  name = codes "write";
  params = (record { called = codes "text"; tree = Tree.list_of (Tree.builtin BuiltinType.Char); comment = [] }) ∷ [];
  results = (record { called = codes "written"; tree = Tree.variant_of IntRepr.U32 (Arms.carries (codes "ok") size [] (Arms.carries (codes "err") errno [] Arms.no_arms)); comment = [] }) ∷ [];
  noreturn = false;
  comment = [];
}

a_side : body_lines (codes "log") write ≡ codes "/* The caller's side:\n    // value0: struct { char const *ptr; size_t len; } text\n    __auto_type t0 = value0;\n    int32_t t1 = (int32_t)t0.ptr, t2 = (int32_t)t0.len;\n    __wasi_size_t space0;\n    int32_t t3 = (int32_t)&space0;\n    int32_t returned = __imported_log_write(t1, t2, t3), t4 = returned;\n    // block\n    int32_t t5 = (int32_t)&space0;\n    __wasi_size_t t6 = *(__wasi_size_t const *)t5;\n    // end, gives t6\n    // block\n    __auto_type t7 = returned;\n    __wasi_errno_t t8 = (__wasi_errno_t)t7;\n    // end, gives t8\n    __auto_type t9 = t4; // 0: what the first block gives, else the second\n    return t9;\n*/\n\n"
unfolding digits same_text
a_side = refl
