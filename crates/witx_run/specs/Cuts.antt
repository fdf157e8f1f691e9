-- A block that is set aside, cut out of the events at once.
use Rattle.std.specs.Prelude.{ℕ, zero, suc, List, [], ◌∷◌, Bool, Option, Some, None}
use Rattle.witx_machine.specs.Events.{Event, emit, space, push, finish}

-- a block cut out of the events behind its push: the events inside, its end, and what follows
pub record Cut (E : Type 0) : Type 0 where
  pub inner : List E
  pub has_value : Bool
  pub end : E
  pub rest : List E

abbrev pub cut_deeper : {E : Type 0} → E → Option (Cut E) → Option (Cut E)
cut_deeper e None = None
cut_deeper e (Some c) = Some (record { inner = e ∷ c.inner; has_value = c.has_value; end = c.end; rest = c.rest })

-- d: how many inner blocks are open
module _ {E : Type 0} (event : E → Event) where
  abbrev pub cut_by : Event → E → ℕ → List E → (ℕ → Option (Cut E)) → Option (Cut E)
  cut_by (emit x) e d es go = cut_deeper e (go d)
  cut_by (space k t) e d es go = cut_deeper e (go d)
  cut_by push e d es go = cut_deeper e (go (suc d))
  cut_by (finish v) e zero es go = Some (record { inner = []; has_value = v; end = e; rest = es })
  cut_by (finish v) e (suc d) es go = cut_deeper e (go d)

  abbrev pub cut : List E → ℕ → Option (Cut E)
  cut [] d = None
  cut (e ∷ es) d = cut_by (event e) e d es (cut es)
