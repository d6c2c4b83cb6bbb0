-- What a loop over a list has done so far, one element further. Assumes nothing.
use Rattle.std.proofs.Common.{◌≡◌, ℕ, zero, suc, ◌+◌, ◌<◌, List, [], ◌∷◌, ◌++◌, length, get_or, take, sym, ap, subst, arith, length-append}
use Rattle.std.proofs.lemmas.List.{take_more}
use Rattle.std.proofs.lemmas.Slice.Zip.{all_zipped_more}
use Rattle.std.specs.List.{AllZip, AllByRecursion}

-- P of the elements so far, with one more at their end, is P of one element more
pub so_far : {A : Type 0} (P : List A → Type 0) (xs : List A) (i : ℕ) (d : A) → i < length xs → P (take i xs ++ (get_or xs i d ∷ [])) → P (take (i + 1) xs)
so_far P xs i d inside p = subst P (sym (take_more xs i d inside)) p

pub zip_more : {A B : Type 0} (R : A → B → Type 0) (xs : List A) (i : ℕ) (d : A) (ys zs : List B) (y : B) → i < length xs → AllZip R (take i xs) ys → R (get_or xs i d) y → zs ≡ ys ++ (y ∷ []) → AllZip R (take (i + 1) xs) zs
zip_more R xs i d ys zs y inside before here pushed =
    so_far (λ v. AllZip R v zs) xs i d inside (subst (λ v. AllZip R (take i xs ++ (get_or xs i d ∷ [])) v) (sym pushed) (all_zipped_more R (take i xs) ys (get_or xs i d) y before here))

pub some_pushed : {A : Type 0} (xs ys : List A) (x : A) → ys ≡ xs ++ (x ∷ []) → length ys ≡ 0 → ⊥
some_pushed xs ys x pushed empty = omega (arith, length-append xs (x ∷ []), ap length pushed)

pub all_more : {A : Type 0} (P : A → Type 0) (xs : List A) (x : A) → AllByRecursion P xs → P x → AllByRecursion P (xs ++ (x ∷ []))
all_more P [] x all p = (p, tt)
all_more P (y ∷ xs) x (q, all) p = (q, all_more P xs x all p)

pub all_at : {A : Type 0} (P : A → Type 0) (xs : List A) (i : ℕ) (d : A) → AllByRecursion P xs → i < length xs → P (get_or xs i d)
all_at P [] i d all inside = let none : ⊥ = omega arith in absurd none
all_at P (x ∷ xs) zero d all inside = all.0
all_at P (x ∷ xs) (suc i) d all inside = all_at P xs i d all.1 (omega arith)

pub zip_all : {A B : Type 0} (R : A → B → Type 0) (xs : List A) (ys : List B) → AllZip R xs ys → AllByRecursion (λ x. (y : B) × R x y) xs
zip_all R [] ys zip = tt
zip_all R (x ∷ xs) [] zip = absurd zip
zip_all R (x ∷ xs) (y ∷ ys) zip = ((y, zip.0), zip_all R xs ys zip.1)
