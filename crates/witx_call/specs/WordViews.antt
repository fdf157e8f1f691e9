-- How the words of a call are read.
use Rattle.std.specs.Prelude.{ℕ, ◌&&◌, Option, Some}
use Rattle.witx_machine.specs.Words as machine
use Rattle.witx_machine.specs.Words.{is_u32, when}
use Rattle.witx_machine.specs.Cells.{is_i32}
use Rattle.witx_call.specs.declared.word.Word.{Word}

abbrev pub word_view : Word → machine.Word
word_view w = record { type = w.ty; bits = w.bits }

-- the number of 32 bits that a word is
abbrev pub u32_in : machine.Word → Option ℕ
u32_in w = when (is_i32 w && is_u32 w.bits) (Some w.bits)
