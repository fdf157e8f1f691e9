use Rattle.std.proofs.Common.{rules, ◌≡◌, sym, ap, subst, is_none, IsSome, None, Some}
use Rattle.std.specs.Ordering.{nat_cmp}
use Rattle.std.specs.Cmp.Lexicographic.{slice_cmp}
use Rattle.std.specs.BTreeMap.{get_key}
use Rattle.std.specs.BTreeMap.Entry.{MatchEntry, entry_key}
use Rattle.witx_base.specs.Found.{found}
use Rattle.witx_base.proofs.name_map.NameMap.insert_new.Goals.{in-Vacant, in-Occupied}
use Rattle.witx_base.proofs.name_map.NameMap.insert_new.Goals as goal

pub returns-clause-told : goal.returns-clause-told
returns-clause-told g c =
    let was = found c.self.inside.map.entries c.args.key in
    let there = IsSome was × (get_key (slice_cmp nat_cmp) c.self.inside.map c.args.key ≡ Some (entry_key c.in_ok-vacant.field-0)) in
    let met : MatchEntry c.in_ok-vacant.field-0 there (was ≡ None) = c.in_ok-vacant.ensures.found in
    elim c.match-branch-2.branch [
      | in-Vacant w ↦ rw (w.result-is, ← c.self.view_is) (sym (ap is_none {x = was} {y = None} (subst (λ e. MatchEntry e there (was ≡ None)) w.in-Vacant.is met)))
      | in-Occupied w ↦ rw (w.result-is, ← c.self.view_is) (search rules)
    ]
