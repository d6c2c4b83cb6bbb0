-- Fields and lines: each right line spells one row.
use Rattle.std.proofs.Common.{◌≡◌, ℕ, zero, suc, ◌<◌, ◌≤◌, true, false, cond, eqb, ◌⊎◌, List, [], ◌∷◌, ◌++◌, length, get_or, sym, refl, ap, ◌∙◌, subst, subst₂, inl, inr, ⊎_elim, arith}
use Rattle.std.specs.List.{AllByRecursion}
use Rattle.std.proofs.lemmas.List.{append_assoc}
use Rattle.std.proofs.ByRecursion.{All-weaker}
use Rattle.std.proofs.lemmas.Bool.{cases_eq}
use Rattle.std.proofs.lemmas.Bool.Decides.{nat_tests}
use Rattle.forms.specs.declared.Row.{Row}
use Rattle.forms.specs.declared.Row.TheVariants.{Void, Nothing, Channel, Element, Union}
use Rattle.forms.specs.declared.Capability.{Capability}
use Rattle.forms.specs.declared.Capability.TheVariants.{In, Out, Both}
use Rattle.texts.specs.RowText.{letter, letter_of_capability, HexDigit, kind, field_1, field_2, field_3, spelled_row, Proper, Content, Allowed, contents, stops, field, from_stop, end_of, RightField, RightFields, RightUpTo, FirstWrong}
use Rattle.texts.specs.declared.kinds.Kind.{Kind}
use Rattle.texts.specs.declared.kinds.Kind.TheVariants.{Void as void, Nothing as nothing, Channel as channel, Element as element, Union as union}
use Rattle.texts.specs.Limits.{label_digits}
use Rattle.texts.specs.RowText.Content.{the_letter, a_capability, a_label_set, a_number, no_bytes}
use Rattle.forms.proofs.Findings.{never, Decided, both_or_not, below_or_not, same_or_not, all_or_not}
use Rattle.forms.proofs.Decimals.{Figures, figures, decimal_one}
use Rattle.texts.proofs.Numbers.{number_or_not, length_hexadecimal, hexadecimal_is, hexadecimal_one, hexadecimal_value}
use Rattle.forms.proofs.Decimals.Figures.{one, two}

-- bytes without a comma or byte 10
abbrev pub Plain : List ℕ → Type 0
Plain f = AllByRecursion (λ b. stops b ≡ false) f

figures_plain : {n : ℕ} {f : List ℕ} → Figures n f → Plain f
figures_plain {n} (one h) = (grind (arith, nat_tests), tt)
figures_plain {n} (two h g) = (grind (arith, nat_tests), (grind (arith, nat_tests), tt))

hex_plain : (b : ℕ) → HexDigit b → stops b ≡ false
hex_plain b (inl h) = grind (arith, nat_tests)
hex_plain b (inr h) = grind (arith, nat_tests)

letter_plain : (k : Kind) → Plain (letter k ∷ [])
letter_plain void = (refl, tt)
letter_plain nothing = (refl, tt)
letter_plain channel = (refl, tt)
letter_plain element = (refl, tt)
letter_plain union = (refl, tt)

capability_plain : (c : Capability) → Plain (letter_of_capability c ∷ [])
capability_plain In = (refl, tt)
capability_plain Out = (refl, tt)
capability_plain Both = (refl, tt)

pub allowed_plain : (c : Content) (f : List ℕ) → Allowed c f → Plain f
allowed_plain (the_letter k) f e = rw e (letter_plain k)
allowed_plain a_capability f (c, e) = rw e (capability_plain c)
allowed_plain a_label_set f (l, all) = All-weaker HexDigit (λ b. stops b ≡ false) hex_plain f all
allowed_plain a_number f (n, h, e) = rw e (figures_plain (figures n h))
allowed_plain no_bytes f e = rw e tt

-- a plain text before a stop is the field, and the stop comes next
field_is : (f : List ℕ) (e : ℕ) (rest : List ℕ) → Plain f → stops e ≡ true → field (f ++ (e ∷ rest)) ≡ f
field_is [] e rest plain s = rw s
field_is (b ∷ f) e rest plain s = rw plain.0 (ap (λ g. b ∷ g) (field_is f e rest plain.1 s))

stop_is : (f : List ℕ) (e : ℕ) (rest : List ℕ) → Plain f → stops e ≡ true → from_stop (f ++ (e ∷ rest)) ≡ e ∷ rest
stop_is [] e rest plain s = rw s
stop_is (b ∷ f) e rest plain s = rw plain.0 (stop_is f e rest plain.1 s)

pub parted : (bytes : List ℕ) → field bytes ++ from_stop bytes ≡ bytes
parted [] = refl
parted (b ∷ bs) = let h = parted bs in elim (stops b) as (λ t. cond t [] (b ∷ field bs) ++ cond t (b ∷ bs) (from_stop bs) ≡ b ∷ bs) [ true ↦ refl | false ↦ ap (λ g. b ∷ g) h ]

pub end_stops : (f : ℕ) → stops (end_of f) ≡ true
end_stops f = grind (arith, nat_tests)

-- a right field, by its bytes
field_right : (k : Kind) (f : ℕ) (w rest : List ℕ) → Allowed (get_or (contents k) f no_bytes) w → RightField k f (w ++ (end_of f ∷ rest)) rest
field_right k f w rest a =
    let p = allowed_plain (get_or (contents k) f no_bytes) w a in
    (rw (field_is w (end_of f) rest p (end_stops f)) a, stop_is w (end_of f) rest p (end_stops f))

right_bytes : (k : Kind) (f : ℕ) {bytes rest : List ℕ} → RightField k f bytes rest → bytes ≡ field bytes ++ (end_of f ∷ rest)
right_bytes k f {bytes} {rest} (a, e) = cc (parted bytes)

-- LINES. A line of these four fields:
abbrev pub line : List ℕ → List ℕ → List ℕ → List ℕ → List ℕ → List ℕ
line f₀ f₁ f₂ f₃ rest = f₀ ++ (44 ∷ (f₁ ++ (44 ∷ (f₂ ++ (44 ∷ (f₃ ++ (10 ∷ rest)))))))

pub spelled_line : (r : Row) (rest : List ℕ) → spelled_row r ++ rest ≡ line (letter (kind r) ∷ []) (field_1 r) (field_2 r) (field_3 r) rest
spelled_line r rest = simp append_assoc

abbrev FieldsAllowed : Kind → List ℕ → List ℕ → List ℕ → List ℕ → Type 0
FieldsAllowed k f₀ f₁ f₂ f₃ = Allowed (get_or (contents k) 0 no_bytes) f₀ × Allowed (get_or (contents k) 1 no_bytes) f₁ × Allowed (get_or (contents k) 2 no_bytes) f₂ × Allowed (get_or (contents k) 3 no_bytes) f₃

line_right : (k : Kind) (f₀ f₁ f₂ f₃ rest : List ℕ) → FieldsAllowed k f₀ f₁ f₂ f₃ → RightFields k 4 (line f₀ f₁ f₂ f₃ rest) rest
line_right k f₀ f₁ f₂ f₃ rest (a₀, a₁, a₂, a₃) = (_, (_, (_, (_, refl, field_right k 0 f₀ _ a₀), field_right k 1 f₁ _ a₁), field_right k 2 f₂ _ a₂), field_right k 3 f₃ rest a₃)

right_line : (k : Kind) {bytes rest : List ℕ} → RightFields k 4 bytes rest → (f₀ f₁ f₂ f₃ : List ℕ) × FieldsAllowed k f₀ f₁ f₂ f₃ × (bytes ≡ line f₀ f₁ f₂ f₃ rest)
right_line k (b₃, (b₂, (b₁, (b₀, e, r₀), r₁), r₂), r₃) = (
  field b₀,
  field b₁,
  field b₂,
  field b₃,
  (r₀.0, r₁.0, r₂.0, r₃.0),
  e ∙ (right_bytes k 0 r₀ ∙ ap (λ t. field b₀ ++ (44 ∷ t)) (right_bytes k 1 r₁ ∙ ap (λ t. field b₁ ++ (44 ∷ t)) (right_bytes k 2 r₂ ∙ ap (λ t. field b₂ ++ (44 ∷ t)) (right_bytes k 3 r₃)))),
)

-- the fields of a row are allowed, and what is allowed is the fields of a row
row_allowed : (r : Row) → Proper r → FieldsAllowed (kind r) (letter (kind r) ∷ []) (field_1 r) (field_2 r) (field_3 r)
row_allowed Void p = (refl, refl, refl, refl)
row_allowed Nothing p = (refl, refl, refl, refl)
row_allowed (Channel c s) p = (refl, (c, refl), (s, p.0, refl), refl)
row_allowed (Element l i n) p = (refl, (length_hexadecimal label_digits l, hexadecimal_is label_digits l p.1), (i, p.0.0, refl), (n, p.0.1, refl))
row_allowed (Union l r) p = (refl, refl, (l, p.0.0, refl), (r, p.0.1, refl))

abbrev RowWith : Kind → List ℕ → List ℕ → List ℕ → List ℕ → Type 0
RowWith k f₀ f₁ f₂ f₃ = (r : Row) × Proper r × (kind r ≡ k) × (f₀ ≡ letter k ∷ []) × (f₁ ≡ field_1 r) × (f₂ ≡ field_2 r) × (f₃ ≡ field_3 r)

allowed_row : (k : Kind) (f₀ f₁ f₂ f₃ : List ℕ) → FieldsAllowed k f₀ f₁ f₂ f₃ → RowWith k f₀ f₁ f₂ f₃
allowed_row void f₀ f₁ f₂ f₃ (e₀, e₁, e₂, e₃) = (Void, (tt, tt), refl, e₀, e₁, e₂, e₃)
allowed_row nothing f₀ f₁ f₂ f₃ (e₀, e₁, e₂, e₃) = (Nothing, (tt, tt), refl, e₀, e₁, e₂, e₃)
allowed_row channel f₀ f₁ f₂ f₃ (e₀, (c, e₁), (s, h, e₂), e₃) = (Channel c s, (h, tt), refl, e₀, e₁, e₂, e₃)
allowed_row element f₀ f₁ f₂ f₃ (e₀, (l, all), (i, hi, e₂), (n, hn, e₃)) = let (v, v<, e₁) = hexadecimal_value f₁ all in (Element v i n, ((hi, hn), rw l at v<), refl, e₀, rw l at e₁, e₂, e₃)
allowed_row union f₀ f₁ f₂ f₃ (e₀, e₁, (l, hl, e₂), (r, hr, e₃)) = (Union l r, ((hl, hr), tt), refl, e₀, e₁, e₂, e₃)

pub row_line : (r : Row) → Proper r → (rest : List ℕ) → RightFields (kind r) 4 (spelled_row r ++ rest) rest
row_line r p rest = rw (spelled_line r rest) (line_right (kind r) (letter (kind r) ∷ []) (field_1 r) (field_2 r) (field_3 r) rest (row_allowed r p))

pub line_row : (k : Kind) {bytes rest : List ℕ} → RightFields k 4 bytes rest → (r : Row) × Proper r × (bytes ≡ spelled_row r ++ rest)
line_row k {bytes} {rest} right =
    let (f₀, f₁, f₂, f₃, allowed, e) = right_line k right in
    let (r, p, ek, e₀, e₁, e₂, e₃) = allowed_row k f₀ f₁ f₂ f₃ allowed in
    (r, p, cc (spelled_line r rest))

-- ONE WAY. A line is of one kind, and has one end.
letter_one : (k k' : Kind) → letter k ≡ letter k' → k ≡ k'
letter_one k k' e = sym (back k) ∙ (ap kind_of e ∙ back k')
  where
    kind_of : ℕ → Kind
    kind_of n = cond (eqb n 86) void (cond (eqb n 78) nothing (cond (eqb n 67) channel (cond (eqb n 69) element union)))

    back : (k : Kind) → kind_of (letter k) ≡ k
    back void = refl
    back nothing = refl
    back channel = refl
    back element = refl
    back union = refl

pub letter_first : (k : Kind) → get_or (contents k) 0 no_bytes ≡ the_letter k
letter_first void = refl
letter_first nothing = refl
letter_first channel = refl
letter_first element = refl
letter_first union = refl

pub fields_one : (f : ℕ) (k k' : Kind) (bytes r r' : List ℕ) → RightFields k (suc f) bytes r → RightFields k' (suc f) bytes r' → (k ≡ k') × (r ≡ r')
fields_one zero k k' bytes r r' (b, e, (a, s)) (b', e', (a', s')) =
    let l : field b ≡ letter k ∷ [] = subst (λ c. Allowed c (field b)) (letter_first k) a in
    let l' : field b' ≡ letter k' ∷ [] = subst (λ c. Allowed c (field b')) (letter_first k') a' in
    (letter_one k k' (cc), cc)
fields_one (suc f) k k' bytes r r' (b, h, (a, s)) (b', h', (a', s')) = let (ek, eb) = fields_one f k k' bytes b b' h h' in (ek, cc)

capability_one : (c d : Capability) → letter_of_capability c ≡ letter_of_capability d → c ≡ d
capability_one In In e = refl
capability_one In Out e = absurd (omega arith)
capability_one In Both e = absurd (omega arith)
capability_one Out In e = absurd (omega arith)
capability_one Out Out e = refl
capability_one Out Both e = absurd (omega arith)
capability_one Both In e = absurd (omega arith)
capability_one Both Out e = absurd (omega arith)
capability_one Both Both e = refl

-- a row is known by its kind and its fields
abbrev Shape : Kind → Row → Type 0
Shape void r = r ≡ Void
Shape nothing r = r ≡ Nothing
Shape channel r = (c : Capability) × (s : ℕ) × (r ≡ Channel c s)
Shape element r = (l i n : ℕ) × (r ≡ Element l i n)
Shape union r = (m n : ℕ) × (r ≡ Union m n)

shape : (r : Row) → Shape (kind r) r
shape Void = refl
shape Nothing = refl
shape (Channel c s) = (c, s, refl)
shape (Element l i n) = (l, i, n, refl)
shape (Union m n) = (m, n, refl)

row_one : (r r' : Row) → Proper r → Proper r' → Shape (kind r) r' → field_1 r ≡ field_1 r' → field_2 r ≡ field_2 r' → field_3 r ≡ field_3 r' → r ≡ r'
row_one Void r' p p' e e₁ e₂ e₃ = sym e
row_one Nothing r' p p' e e₁ e₂ e₃ = sym e
row_one (Channel c s) r' p p' (c', s', e) e₁ e₂ e₃ =
    let q : Proper (Channel c' s') = rw e at p' in
    let i : c ≡ c' = capability_one c c' (cc (ap field_1 e)) in
    let j : s ≡ s' = decimal_one p.0 q.0 (cc (ap field_2 e)) in
    cc
row_one (Element l i n) r' p p' (l', i', n', e) e₁ e₂ e₃ =
    let q : Proper (Element l' i' n') = rw e at p' in
    let a : l ≡ l' = hexadecimal_one label_digits l l' p.1 q.1 (e₁ ∙ ap field_1 e) in
    let b : i ≡ i' = decimal_one p.0.0 q.0.0 (e₂ ∙ ap field_2 e) in
    let c : n ≡ n' = decimal_one p.0.1 q.0.1 (e₃ ∙ ap field_3 e) in
    cc
row_one (Union m n) r' p p' (m', n', e) e₁ e₂ e₃ =
    let q : Proper (Union m' n') = rw e at p' in
    let a : m ≡ m' = decimal_one p.0.0 q.0.0 (e₂ ∙ ap field_2 e) in
    let b : n ≡ n' = decimal_one p.0.1 q.0.1 (e₃ ∙ ap field_3 e) in
    cc

-- plain texts before a stop
plain_one : (f g : List ℕ) (e d : ℕ) (r s : List ℕ) → Plain f → Plain g → stops e ≡ true → stops d ≡ true → f ++ (e ∷ r) ≡ g ++ (d ∷ s) → (f ≡ g) × (r ≡ s)
plain_one f g e d r s p q a b h = (
  sym (field_is f e r p a) ∙ (ap field h ∙ field_is g d s q b),
  let t : e ∷ r ≡ d ∷ s = sym (stop_is f e r p a) ∙ (ap from_stop h ∙ stop_is g d s q b) in cc,
)

pub rows_line_one : (r r' : Row) → Proper r → Proper r' → (s s' : List ℕ) → spelled_row r ++ s ≡ spelled_row r' ++ s' → (r ≡ r') × (s ≡ s')
rows_line_one r r' p p' s s' h =
    let (a₀, a₁, a₂, a₃) = row_allowed r p in
    let (b₀, b₁, b₂, b₃) = row_allowed r' p' in
    let (e₀, h₁) = plain_one (letter (kind r) ∷ []) (letter (kind r') ∷ []) 44 44 _ _ (letter_plain (kind r)) (letter_plain (kind r')) refl refl (sym (spelled_line r s) ∙ (h ∙ spelled_line r' s')) in
    let (e₁, h₂) = plain_one (field_1 r) (field_1 r') 44 44 _ _ (allowed_plain _ _ a₁) (allowed_plain _ _ b₁) refl refl h₁ in
    let (e₂, h₃) = plain_one (field_2 r) (field_2 r') 44 44 _ _ (allowed_plain _ _ a₂) (allowed_plain _ _ b₂) refl refl h₂ in
    let (e₃, h₄) = plain_one (field_3 r) (field_3 r') 10 10 s s' (allowed_plain _ _ a₃) (allowed_plain _ _ b₃) refl refl h₃ in
    let k : kind r ≡ kind r' = letter_one (kind r) (kind r') (cc) in
    (row_one r r' p p' (subst (λ x. Shape x r') (sym k) (shape r')) e₁ e₂ e₃, h₄)

-- DECIDED
hex_or_not : (b : ℕ) → Decided (HexDigit b)
hex_or_not b = ⊎_elim
    (λ (l, h). inl (inl (omega arith, omega arith)))
    (λ no-digit. ⊎_elim (λ (l, h). inl (inr (omega arith, omega arith))) (λ no-letter. inr (⊎_elim (λ (l, h). no-digit (omega arith, omega arith)) (λ (l, h). no-letter (omega arith, omega arith)))) (both_or_not (below_or_not 96 b) (below_or_not b 103)))
    (both_or_not (below_or_not 47 b) (below_or_not b 58))

capability_or_not : (f : List ℕ) → Decided ((c : Capability) × (f ≡ letter_of_capability c ∷ []))
capability_or_not f = ⊎_elim (λ i. inl (In, i)) (λ ni. ⊎_elim (λ o. inl (Out, o)) (λ no'. ⊎_elim (λ b. inl (Both, b)) (λ nb. inr (λ (c, e). none ni no' nb c e)) (same_or_not f (98 ∷ []))) (same_or_not f (111 ∷ []))) (same_or_not f (105 ∷ []))
  where
    none : (f ≡ 105 ∷ [] → ⊥) → (f ≡ 111 ∷ [] → ⊥) → (f ≡ 98 ∷ [] → ⊥) → (c : Capability) → f ≡ letter_of_capability c ∷ [] → ⊥
    none ni no' nb In e = ni e
    none ni no' nb Out e = no' e
    none ni no' nb Both e = nb e

pub allowed_or_not : (c : Content) (f : List ℕ) → Decided (Allowed c f)
allowed_or_not (the_letter k) f = same_or_not f (letter k ∷ [])
allowed_or_not a_capability f = capability_or_not f
allowed_or_not a_label_set f = both_or_not (cases_eq (length f) label_digits) (all_or_not hex_or_not f)
allowed_or_not a_number f = number_or_not f
allowed_or_not no_bytes f = same_or_not f []

-- this byte comes first, or not
begins_or_not : (e : ℕ) (bytes : List ℕ) → Decided ((rest : List ℕ) × (bytes ≡ e ∷ rest))
begins_or_not e [] = inr (λ (rest, h). never (cc))
begins_or_not e (b ∷ bs) = ⊎_elim (λ h. inl (bs, cc)) (λ nh. inr (λ (rest, h). nh (cc))) (cases_eq b e)

pub field_or_not : (k : Kind) (f : ℕ) (bytes : List ℕ) → Decided ((rest : List ℕ) × RightField k f bytes rest)
field_or_not k f bytes = ⊎_elim
    (λ (a, (rest, e)). inl (rest, (a, e)))
    (λ none. inr (λ (rest, (a, e)). none (a, (rest, e))))
    (both_or_not (allowed_or_not (get_or (contents k) f no_bytes) (field bytes)) (begins_or_not (end_of f) (from_stop bytes)))

kind_or_not : (bytes : List ℕ) → Decided (RightUpTo 1 bytes)
kind_or_not bytes = ⊎_elim inl (λ v. ⊎_elim inl (λ n. ⊎_elim inl (λ c. ⊎_elim inl (λ e. ⊎_elim inl (λ u. inr (λ (k, rest, h). none v n c e u k (rest, h))) (try union)) (try element)) (try channel)) (try nothing)) (try void)
  where
    Of : Kind → Type 0
    Of k = (rest : List ℕ) × RightFields k 1 bytes rest

    try : (k : Kind) → RightUpTo 1 bytes ⊎ (Of k → ⊥)
    try k = ⊎_elim (λ (rest, h). inl (k, rest, (bytes, refl, h))) (λ nh. inr (λ (rest, (b, e, h)). nh (rest, subst (λ x. RightField k 0 x rest) (sym e) h))) (field_or_not k 0 bytes)

    none : (Of void → ⊥) → (Of nothing → ⊥) → (Of channel → ⊥) → (Of element → ⊥) → (Of union → ⊥) → (k : Kind) → Of k → ⊥
    none v n c e u void = v
    none v n c e u nothing = n
    none v n c e u channel = c
    none v n c e u element = e
    none v n c e u union = u

-- the first fields are right, and the next one is not
pub first_wrong : (k : Kind) (f : ℕ) → suc f < 4 → (bytes rest : List ℕ) → RightFields k (suc f) bytes rest → ((rest' : List ℕ) → RightField k (suc f) rest rest' → ⊥) → FirstWrong (suc f) bytes
first_wrong k f h bytes rest right none = (h, (k, rest, right), λ (k', rest', (b, right', r)). let (ek, eb) = fields_one f k k' bytes rest b right right' in none rest' (subst₂ (λ x y. RightField x (suc f) y rest') (sym ek) (sym eb) r))

-- a line has a first wrong field, or it is right
abbrev pub RightLine : List ℕ → Type 0
RightLine bytes = (k : Kind) × (rest : List ℕ) × RightFields k 4 bytes rest

pub line_or_wrong : (bytes : List ℕ) → ((f : ℕ) × FirstWrong f bytes) ⊎ RightLine bytes
line_or_wrong bytes = ⊎_elim
    (λ (k, rest, h). ⊎_elim inl (λ (rest, h). ⊎_elim inl (λ (rest, h). ⊎_elim inl (λ (rest, h). inr (k, rest, h)) (next k 2 (omega arith) rest h)) (next k 1 (omega arith) rest h)) (next k 0 (omega arith) rest h))
    (λ nk. inl (0, (omega arith, (void, bytes, refl), nk)))
    (kind_or_not bytes)
  where
    next : (k : Kind) (f : ℕ) → suc f < 4 → (rest : List ℕ) → RightFields k (suc f) bytes rest → ((f : ℕ) × FirstWrong f bytes) ⊎ ((rest : List ℕ) × RightFields k (suc (suc f)) bytes rest)
    next k f h rest right = ⊎_elim
        (λ (rest', r). inr (rest', (rest, right, r)))
        (λ nr. inl (suc f, first_wrong k f h bytes rest right (λ rest' r. nr (rest', r))))
        (field_or_not k (suc f) rest)

-- fewer fields of a right line
pub fewer_fields : (n f : ℕ) → f ≤ n → (k : Kind) (bytes rest : List ℕ) → RightFields k n bytes rest → RightUpTo f bytes
fewer_fields zero f h k bytes rest right = let e : f ≡ 0 = omega arith in rw e (k, rest, right)
fewer_fields (suc n) f h k bytes rest right = ⊎_elim
    (λ e. rw e (k, rest, right))
    (λ ne. fewer_fields n f (omega arith) k bytes right.0 right.1)
    (cases_eq f (suc n))
