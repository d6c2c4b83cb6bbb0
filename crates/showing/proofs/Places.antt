-- What can be made for a place, by the row or the pair of rows whose place it is. Assumes nothing.
use Rattle.std.proofs.Common.{◌≡◌, ℕ, zero, suc, ◌+◌, ◌-◌, ◌*◌, ◌/◌, ◌%◌, ◌<◌, ◌≤◌, Bool, true, false, List, length, Some, None, Decides, Option, sym, ap, ◌∙◌, subst, subst₂, arith, MatchOption}
use Rattle.std.proofs.lemmas.Nat.{mul-add-lt, div-add-mod', div_below, mod_below}
use Rattle.std.proofs.lemmas.Bool.{both_ways}
use Rattle.sets.specs.Sets.{member}
use Rattle.forms.specs.declared.Row.{Row}
use Rattle.documents.specs.declared.nodes.Node.{Node}
use Rattle.verdicts.specs.Pairs.{related}
use Rattle.verdicts.proofs.Deciding.{between_from, between_parts, place_div, place_mod}
use Rattle.showing.specs.Drafts.{pair_place, Lights, Unlit, Tells, Untold, Drafts, Undrafted}
use Rattle.showing.specs.Drafts.Drafts.{of_row, of_pair}

-- a pair of rows is known by its place
pub one_pair : (n p q a b : ℕ) → q < n → b < n → pair_place n p q ≡ pair_place n a b → (p ≡ a) × (q ≡ b)
one_pair n p q a b low low' e =
    let same : p * n + q ≡ a * n + b = omega arith in
    (sym (place_div n p q low) ∙ ap (λ x. x / n) same ∙ place_div n a b low', sym (place_mod n p q low) ∙ ap (λ x. x % n) same ∙ place_mod n a b low')

pub positive : (n k : ℕ) → k < n * n → 0 < n
positive zero k h = absurd (omega arith)
positive (suc n) k h = omega arith

module _ (rows : List Row) (leaned below : List ℕ) (numbers : List (Option ℕ)) where
  abbrev n : ℕ
  n = length rows

  abbrev L : ℕ → ℕ → Bool
  L = related n leaned

  abbrev B : ℕ → ℕ → Bool
  B = related n below

  pub draft_row : (place m : ℕ) (o : Option Node) → m ≡ length rows → place < m → MatchOption o (Unlit rows numbers place) (λ v. Lights rows numbers place v) →
      MatchOption o (Undrafted rows (related (length rows) leaned) (related (length rows) below) numbers place) (λ v. Drafts rows (related (length rows) leaned) (related (length rows) below) numbers place v)
  draft_row place m None e low unlit = record { row = λ _. unlit; pair = λ p q a b is. absurd (omega arith) }
  draft_row place m (Some v) e low lights = of_row (omega arith) lights

  -- the pair at a place behind the rows' places
  abbrev Open : ℕ → Type 0
  Open k = (k < n * n) × (member leaned k ≡ true) × (member below k ≡ true → ⊥)

  pub draft_shut : (place m : ℕ) (b : Bool) → m ≡ length rows → m ≤ place → Decides b (Open (place - m)) → b ≡ false → Undrafted rows (related (length rows) leaned) (related (length rows) below) numbers place
  draft_shut place m b e high told off = record {
    row = λ low. absurd (omega arith);
    pair = λ p q p< q< is l nb. absurd (both_ways b off (told.1 (opens p q p< q< is l nb)));
  }
    where
      opens : (p q : ℕ) → p < n → q < n → place ≡ pair_place n p q → L p q ≡ true → (B p q ≡ true → ⊥) → Open (place - m)
      opens p q p< q< is l nb =
          let k : p * n + q ≡ place - m = omega arith in
          subst Open k (mul-add-lt p n q n p< q<, (between_parts n (member leaned) p q l).2, λ h. nb (between_from n (member below) p q p< q< h))

  drafted : (place a b : ℕ) (o : Option Node) → a < n → b < n → place ≡ pair_place n a b → L a b ≡ true → (B a b ≡ true → ⊥) → MatchOption o (Untold rows B numbers a b) (λ v. Tells rows B numbers a b v) → MatchOption o (Undrafted rows L B numbers place) (λ v. Drafts rows L B numbers place v)
  drafted place a b None a< b< is l nb untold = record {
    row = λ low. absurd (omega arith);
    pair = λ p q p< q< is' _ _. let (ep, eq) = one_pair n a b p q b< q< (sym is ∙ is') in subst₂ (Untold rows B numbers) ep eq untold;
  }
  drafted place a b (Some v) a< b< is l nb tells = subst (λ x. Drafts rows L B numbers x v) (sym is) (of_pair a< b< l nb tells)

  abbrev Told : ℕ → ℕ → Option Node → Type 0
  Told m k o = MatchOption o (Untold rows B numbers (k / m) (k % m)) (λ v. Tells rows B numbers (k / m) (k % m) v)

  pub draft_pair : (place m : ℕ) (o : Option Node) → m ≡ length rows → m ≤ place → Open (place - m) → Told m (place - m) o →
      MatchOption o (Undrafted rows (related (length rows) leaned) (related (length rows) below) numbers place) (λ v. Drafts rows (related (length rows) leaned) (related (length rows) below) numbers place v)
  draft_pair place m o e = subst (λ x. x ≤ place → Open (place - x) → Told x (place - x) o → MatchOption o (Undrafted rows L B numbers place) (λ v. Drafts rows L B numbers place v)) (sym e) go
    where
      go : n ≤ place → Open (place - n) → Told n (place - n) o → MatchOption o (Undrafted rows L B numbers place) (λ v. Drafts rows L B numbers place v)
      go high (low, l, nb) told =
          let k = place - n in
          let some : 0 < n = positive n k low in
          let a< = div_below k n n some low in
          let b< = mod_below k n some in
          let parts : k / n * n + k % n ≡ k = div-add-mod' k n in
          drafted place (k / n) (k % n) o a< b< (omega arith)
          (between_from n (member leaned) (k / n) (k % n) a< b< (subst (λ x. member leaned x ≡ true) (sym parts) l))
          (λ h. nb (subst (λ x. member below x ≡ true) parts (between_parts n (member below) (k / n) (k % n) h).2)) told
