-- Lists of one word, and words that ask for nothing.
use Rattle.std.proofs.Common.{◌≡◌, ℕ, ◌<◌, List, [], ◌∷◌, Some, None, length, slice_index_or, sym, ◌∙◌, ap, arith}
use Rattle.std.proofs.lemmas.Option.{none-some}
use Rattle.inspection.specs.declared.kinds.Kind.{Kind}
use Rattle.inspection.specs.declared.kinds.Kind.TheVariants.{Machine, Marks, Rule, Phases, Record}
use Rattle.inspection.specs.declared.kinds.Request.{Request}
use Rattle.inspection.specs.declared.kinds.Request.TheVariants.{Help, Sheet}
use Rattle.inspection.specs.Names.{word, number, Counts, Asks}

pub one : {A : Type 0} → (xs : List A) (x : A) → 0 < length xs → length xs < 2 → x ≡ slice_index_or xs 0 x → xs ≡ x ∷ []
one {A = A} [] x some few is = absurd (omega arith)
one {A = A} (y ∷ []) x some few is = ap (λ (z : A). z ∷ []) (sym is)
one {A = A} (y ∷ z ∷ xs) x some few is = absurd (omega arith)

-- a word that writes no number of states
pub uncounted : (name count : List ℕ) → ((n : ℕ) → Counts count n → None ≡ Some n) → (request : Request) → Asks (name ∷ count ∷ []) request → ⊥
uncounted name count none Help a = a
uncounted name count none (Sheet Machine) a = a.1
uncounted name count none (Sheet (Marks n)) a = none-some n (none n a.1)
uncounted name count none (Sheet (Rule n)) a = none-some n (none n a.1)
uncounted name count none (Sheet Phases) a = a.1
uncounted name count none (Sheet Record) a = a.1

-- a word that names no kind with that number
pub unnamed : (name count : List ℕ) (m : ℕ) → Counts count m → ((kind : Kind) → name ≡ word kind → Some m ≡ number kind → None ≡ Some kind) →
    (request : Request) → Asks (name ∷ count ∷ []) request → ⊥
unnamed name count m c none Help a = a
unnamed name count m c none (Sheet Machine) a = a.1
unnamed name count m c none (Sheet (Marks n)) a = none-some (Marks n) (none (Marks n) a.0 (ap Some (c.value ∙ sym a.1.value)))
unnamed name count m c none (Sheet (Rule n)) a = none-some (Rule n) (none (Rule n) a.0 (ap Some (c.value ∙ sym a.1.value)))
unnamed name count m c none (Sheet Phases) a = a.1
unnamed name count m c none (Sheet Record) a = a.1

-- two words whose names are those
pub two : {A : Type 0} → (xs : List A) (x y : A) → 1 < length xs → length xs < 3 → x ≡ slice_index_or xs 0 x → y ≡ slice_index_or xs 1 y → xs ≡ x ∷ y ∷ []
two {A = A} [] x y some few is next = absurd (omega arith)
two {A = A} (v ∷ []) x y some few is next = absurd (omega arith)
two {A = A} (v ∷ w ∷ []) x y some few is next = ap (λ (z : A). z ∷ w ∷ []) (sym is) ∙ ap (λ (z : A). x ∷ z ∷ []) (sym next)
two {A = A} (v ∷ w ∷ z ∷ xs) x y some few is next = absurd (omega arith)
