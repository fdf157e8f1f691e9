-- `report-plain`, `report-repeated`: the report of a fault from its located texts and its message.
use Rattle.std.specs.Prelude.{◌≡◌, ℕ, List, ◌++◌, codes, Option, Some, None, Ok}
use Rattle.std.proofs.Common.{refl, ap, subst, ◌∙◌}
use Rattle.witx_files.specs.Files.{Files}
use Rattle.witx_files.specs.LocatedTexts.{IsLocatedText}
use Rattle.witx_files.specs.declared.location.Location.{Location}
use Rattle.witx_scope.specs.Faults.{Fault}
use Rattle.witx_scope.specs.Messages.{message, fault_location}
use Rattle.witx_scope.specs.Reports.{IsReport, IsReportEnd, earlier_location}

end-plain : (files : Option Files) (said : List ℕ) (o : Option Location) (now : ℕ) → o ≡ None → IsReportEnd files said o now now (codes "\n" ++ said)
end-plain files said o now e = rw e (refl, refl)

end-repeated : (files : Option Files) (said second : List ℕ) (o : Option Location) (earlier : Location) (before now : ℕ) → o ≡ Some earlier → IsLocatedText files earlier before now (Ok second)
    → IsReportEnd files said o before now (codes "\n" ++ (said ++ (codes "\nOriginally defined at:\n" ++ second)))
end-repeated files said second o earlier before now e l = rw e (second, l, refl)

pub report-plain : (files : Option Files) (f : Fault) (before now : ℕ) (place text : List ℕ)
    → IsLocatedText files (fault_location f) before now (Ok place) → earlier_location f ≡ None → text ≡ place ++ (codes "\n" ++ message f)
    → IsReport files f before now (Ok text)
report-plain files f before now place text l e t = (place, codes "\n" ++ message f, now, l, end-plain files (message f) (earlier_location f) now e, t)

pub report-repeated : (files : Option Files) (f : Fault) (before between now : ℕ) (place second text : List ℕ) (earlier : Location)
    → IsLocatedText files (fault_location f) before between (Ok place) → earlier_location f ≡ Some earlier → IsLocatedText files earlier between now (Ok second)
    → text ≡ place ++ (codes "\n" ++ (message f ++ (codes "\nOriginally defined at:\n" ++ second)))
    → IsReport files f before now (Ok text)
report-repeated files f before between now place second text earlier l e m t =
    (place, codes "\n" ++ (message f ++ (codes "\nOriginally defined at:\n" ++ second)), between, l, end-repeated files (message f) second (earlier_location f) earlier between now e m, t)

-- the same with the places and the message as the code has them
pub report-told : (files left : Option Files) (f : Fault) (before between now : ℕ) (place one said second two text : List ℕ) (at earlier : Location)
    → at ≡ fault_location f → IsLocatedText files at before between (Ok place) → earlier_location f ≡ Some earlier → left ≡ files
    → IsLocatedText left earlier between now (Ok second) → one ≡ place → said ≡ message f → two ≡ second
    → text ≡ one ++ (codes "\n" ++ (said ++ (codes "\nOriginally defined at:\n" ++ two)))
    → IsReport files f before now (Ok text)
report-told files left f before between now place one said second two text at earlier a l e k m o s w t =
    report-repeated files f before between now place second text earlier (subst (λ (x : Location). IsLocatedText files x before between (Ok place)) a l) e
    (subst (λ (x : Option Files). IsLocatedText x earlier between now (Ok second)) k m)
    (t ∙ (ap (λ (x : List ℕ). x ++ (codes "\n" ++ (said ++ (codes "\nOriginally defined at:\n" ++ two)))) o
    ∙ (ap (λ (x : List ℕ). place ++ (codes "\n" ++ (x ++ (codes "\nOriginally defined at:\n" ++ two)))) s
    ∙ ap (λ (x : List ℕ). place ++ (codes "\n" ++ (message f ++ (codes "\nOriginally defined at:\n" ++ x)))) w)))

pub ruleset report_rules = (report-plain, report-repeated)
