-- Texts that are put together piece by piece.
use Rattle.std.proofs.Common.{◌≡◌, ℕ, List, ◌++◌, ap, ◌∙◌, append_assoc}

-- what was put behind a text that was put behind another
pub joined : (start one two middle end : List ℕ) → middle ≡ start ++ one → end ≡ middle ++ two → end ≡ start ++ (one ++ two)
joined start one two middle end p q = q ∙ ap (λ (t : List ℕ). t ++ two) p ∙ append_assoc start one two

pub ruleset joining_rules = (joined)
