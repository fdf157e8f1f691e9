-- Where a list of items keeps its items, so that a type may hold a list of itself, as a record's type holds its members.
-- A list is seen as the list of its items: its shape is the list of their shapes, and what it owns is what its `Vec` owns.
use mathlib.Core.List.{List, []}
use mathlib.Core.Path.{◌≡◌, refl, sym}
use mathlib.Core.Former.{Former, this, list, via, children}
use base.Stored.{code_map}
use denote.RattleType.{RattleType}
use denote.HoleLaws.{Alike}
use denote.HolePlaces.{Recodes, struct_places, laid}
use denote.Hole.Carrier.{listed, list-listed}
use denote.Hole.Fix.{over}
use denote.Param.Weighed.{Weighed, w_list}
use denote.Model.Placed.{view_places}
use Rattle.std.specs.formers.vec.Vec as buffer
use Rattle.std.specs.declared.alloc.Global.{Global}
use Rattle.std.specs.contracts.alloc.Global as memory
use Rattle.std.specs.contracts.impls.GlobalAllocator.TheImpl.{ghosts}
use Rattle.witx_base.specs.declared.items.Items.TheInside.{Inside}
use Rattle.witx_base.specs.declared.items.Items.TheView.{view, invariant}
use Rattle.witx_base.specs.contracts.items.Items as outside
use Rattle.witx_base.specs.contracts.items.Items.TheInside as inside

-- the list of the items, each split as an item is split
abbrev pub the_former : Former {0} → Former {0}
the_former item = list item

abbrev pub the_weighed : {item : Former {0}} → Weighed item → Weighed (the_former item)
the_weighed weighed = w_list weighed

pub the_empty : List ⊥
the_empty = []

abbrev pub the_items : (T : Type 0) → List T → List T
the_items T items = items

pub the_items_listed : (T : Type 0) (items : List T) → listed _ (children (the_former this) T items) ≡ the_items T items
the_items_listed T items = list-listed T items

-- the one field, a `Vec`, by the list that it holds
abbrev kept : Former {0}
kept = via (buffer.the_former this Global) Inside (λ T it. it.items) (λ T vec. record { items = vec }) (λ T it. refl) (λ T vec. refl)

module _ (From To : RattleType) (h : From.Denot → To.Denot) where
  pub the_places : Alike From To h → Alike (outside.the_row From) (outside.the_row To) ((the_former this).map From.Denot To.Denot h)
  the_places alike =
      view_places kept (list this) view (λ X Y k it. refl) (λ X it. refl) From.Denot To.Denot h (outside.the_row From).coded (outside.the_row To).coded
      (invariant From.Denot) (invariant To.Denot) (λ it p q. refl) (λ it p q. refl) (λ it e. tt) (λ it e. tt)
      (over (inside.the_row From)) (over (inside.the_row To))
      (struct_places (inside.the_type From) (inside.the_type To) (buffer.mapped h, tt) _ (λ it. refl) refl
      (laid _ _ _ (buffer.the_places memory.the_row ghosts From To h alike), tt))

  pub the_codes_placed : Recodes From To h → Recodes (outside.the_row From) (outside.the_row To) ((the_former this).map From.Denot To.Denot h)
  the_codes_placed recodes items = sym (code_map From.coded.code To.coded.code h (λ x. sym (recodes x)) items)
