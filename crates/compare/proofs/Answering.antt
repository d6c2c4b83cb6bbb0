-- The answer to a question, and the number that says it. Assumes nothing.
use Rattle.std.proofs.Common.{rules, ◌≡◌, ℕ, ◌+◌, ◌<◌, ◌≤◌, ◌⊎◌, ◌↔◌, List, ◌++◌, length, drop, Ok, Err, Result, refl, ap, ◌∙◌, inl, inr, arith}
use Rattle.forms.specs.declared.Row.{Row}
use Rattle.forms.proofs.Findings.{never}
use Rattle.documents.specs.declared.faults.WriteFault.TheVariants.{TooLong}
use Rattle.schema.specs.Rules.{Included}
use Rattle.book.specs.Answers.{IsVerdict}
use Rattle.book.specs.declared.types.Verdict.{Verdict}
use Rattle.book.specs.declared.types.Verdict.TheVariants.{Yes as yes, No as no}
use Rattle.compare.specs.Comparing.{Refutes, room, YesIs, Found, Refused, Settled, Answers, ZeroIsYes}
use Rattle.compare.specs.Questions.{Asked}
use Rattle.compare.specs.Reasons.{Comparable, together}
use Rattle.compare.specs.declared.comparing.Finding.{Finding}
use Rattle.compare.specs.declared.comparing.Finding.TheVariants.{Yes, No}
use Rattle.compare.specs.declared.faults.CompareFault.{CompareFault}
use Rattle.compare.specs.declared.faults.CompareFault.TheVariants.{Text, Writing}
use Rattle.compare.proofs.Reasons.{one_first_fault, fault_or_answer, by_reading}

module _ (rows : List Row) (p q : ℕ) where
  by_verdict : (v : Verdict) → IsVerdict rows p q v → (r : Result Finding CompareFault) → (r ≡ Ok Yes) ↔ (v ≡ yes) → YesIs rows p q r
  by_verdict v is r same = search (rules, is.included, is.below, is.published, same) depth 9

  -- what is found of two rows says whether every document that fits the one fits the other
  found_yes : (before after : List ℕ) (r : Result Finding CompareFault) → Found rows p q before after r → YesIs rows p q r
  found_yes before after (Ok Yes) (is, _) = by_verdict yes is _ (λ _. refl, λ _. refl)
  found_yes before after (Ok (No n)) (is, _, _, _, _, _) = by_verdict no is _ (λ e. never (cc), λ e. never (cc))
  found_yes before after (Err e) (is, _, _, _, _, _) = by_verdict no is _ (λ h. never (cc), λ h. never (cc))

  found_kept : (before after : List ℕ) (r : Result Finding CompareFault) → Found rows p q before after r → r ≡ Ok Yes → after ≡ before
  found_kept before after (Ok Yes) (_, same) e = same
  found_kept before after _ found e = never (cc)

  found_no : (before after : List ℕ) (r : Result Finding CompareFault) → Found rows p q before after r → (Included rows p q → ⊥) →
      (text : List ℕ) × Refutes rows p q text × (length text ≤ room before → (r ≡ Ok (No (length text))) × (after ≡ text ++ drop (length text) before)) × (room before < length text → (r ≡ Err (Writing TooLong)) × (after ≡ before))
  found_no before after (Ok Yes) (is, _) not = absurd (not (is.included.0 refl))
  found_no before after (Ok (No k)) (_, text, refutes, fits, long, e) not = (text, refutes, λ _. (ap (λ x. Ok (No x)) long, e ∙ ap (λ x. text ++ drop x before) long), λ over. absurd (omega arith))
  found_no before after (Err e) (_, text, refutes, over, is, same) not = (text, refutes, λ fits. absurd (omega arith), λ _. (ap Err is, same))

-- a report of a fault has a layer
pub zero_is_yes : ZeroIsYes
zero_is_yes n (Ok Yes) is = (λ _. refl, λ _. is)
zero_is_yes n (Ok (No k)) s = let is = s.is in (λ z. absurd (omega arith), λ e. never (cc))
zero_is_yes n (Err (Text side e)) s = let is = s.is in (λ z. absurd (omega arith), λ h. never (cc))
zero_is_yes n (Err _) s = let is = s.is in (λ z. absurd (omega arith), λ h. never (cc))

module _ (x : Asked) (before after : List ℕ) (r : Result Finding CompareFault) where
  pub answered : Refused x before after r ⊎ Settled x before after r → Answers x before after r
  answered (inl (e, faulty, is, same)) = search (rules, fault_or_answer x e, one_first_fault x e) depth 9
  answered (inr (a, b, c, found)) = record {
    either = inr (a, b, c);
    fault = λ e faulty. absurd (fault_or_answer x e a b faulty c);
    yes = λ v w d. found_yes _ _ _ _ _ _ (again v w d);
    kept = found_kept _ _ _ _ _ _ found;
    no = λ v w d. found_no _ _ _ _ _ _ (again v w d);
  }
    where
      again : (v w : List Row) → Comparable x v w → Found (together x v w) x.p (length v + x.q) before after r
      again v w d = by_reading (λ y z. Found (together x y z) x.p (length y + x.q) before after r) c.read d.read found
