-- What is written of a record on the way.
use Rattle.std.proofs.Common.{◌≡◌, ℕ, ◌+◌, ◌*◌, ◌/◌, ◌%◌, ◌<◌, List, vec_items, sym, ap, subst, ◌∙◌, inl, inr, mul_comm, arith}
use Rattle.std.proofs.lemmas.Bool.{cases_eq}
use Rattle.std.proofs.lemmas.Nat.{mul-add-lt, div-mul-add, mod-mul-add}
use Rattle.reading.specs.Bytes.{byte, pair}
use Rattle.reading.specs.Limits.{AllBelow}
use Rattle.checking.specs.declared.ranking.Entry.{Entry}
use Rattle.checking.specs.declared.ranking.Ranking.{Ranking}
use Rattle.checking.specs.Arenas.{Arena}
use Rattle.checking.specs.Solving.{held, Holds}

-- the head is written, and the entries of the places below k
pub record Writing (a : Arena) (z : Ranking) (xs : List ℕ) (k : ℕ) : Type 0 where
  pub bytes : 0 < k → AllBelow 256 xs
  pub states : pair xs 0 ≡ a.states
  pub phases : byte xs 2 ≡ a.phases
  pub signals : byte xs 3 ≡ a.own
  pub entries : (s p : ℕ) → s < a.states → p < a.phases → s * a.phases + p < k → Holds xs (a.states * a.phases) (s * a.phases + p) (held a (vec_items z.entries) s p)

module _ (a : Arena) (z : Ranking) where
  -- a position's place is below the size
  pub place_low : (s p : ℕ) → s < a.states → p < a.phases → s * a.phases + p < a.states * a.phases
  place_low s p hs hp = omega (arith, mul-add-lt s a.phases p a.states hs hp, mul_comm a.phases a.states)

  pub writing_next : (xs ys : List ℕ) (s p : ℕ) → s < a.states → p < a.phases → Writing a z xs (s * a.phases + p) → ((i : ℕ) → i < 4 → byte ys i ≡ byte xs i)
      → Holds ys (a.states * a.phases) (s * a.phases + p) (held a (vec_items z.entries) s p)
      → ((i : ℕ) (e : Entry) → i < a.states * a.phases → (i ≡ s * a.phases + p → ⊥) → Holds xs (a.states * a.phases) i e → Holds ys (a.states * a.phases) i e) → AllBelow 256 ys
      → Writing a z ys (s * a.phases + p + 1)
  writing_next xs ys s p hs hp w head here others bytes = record {
    bytes = λ _. bytes;
    states = rw (head 0 (omega arith), head 1 (omega arith)) w.states;
    phases = head 2 (omega arith) ∙ w.phases;
    signals = head 3 (omega arith) ∙ w.signals;
    entries = λ t q ht hq h. elim (cases_eq (t * a.phases + q) (s * a.phases + p)) [
      | inl e ↦ (let f : t ≡ s = sym (div-mul-add t a.phases q hq) ∙ ap (λ i. i / a.phases) e ∙ div-mul-add s a.phases p hp in
          let g : q ≡ p = sym (mod-mul-add t a.phases q hq) ∙ ap (λ i. i % a.phases) e ∙ mod-mul-add s a.phases p hp in
          rw (f, g) here)
      | inr n ↦ others (t * a.phases + q) _ (place_low t q ht hq) n (w.entries t q ht hq (omega (arith, n, h)))
    ];
  }

  -- the same, where size, place and entry go by other names
  pub writing_at : (xs ys : List ℕ) (n k s p : ℕ) → n ≡ a.states * a.phases → k ≡ s * a.phases + p → (v : Entry) → v ≡ held a (vec_items z.entries) s p → s < a.states → p < a.phases → Writing a z xs (s * a.phases + p)
      → ((i : ℕ) → i < 4 → byte ys i ≡ byte xs i) → Holds ys n k v → ((i : ℕ) (e : Entry) → i < n → (i ≡ k → ⊥) → Holds xs n i e → Holds ys n i e) → AllBelow 256 ys → Writing a z ys (s * a.phases + (p + 1))
  writing_at xs ys n k s p en ek v ev hs hp w head here others bytes =
      let q : s * a.phases + (p + 1) ≡ s * a.phases + p + 1 = omega arith in
      rw q (writing_next xs ys s p hs hp w head (subst (Holds ys (a.states * a.phases) (s * a.phases + p)) ev (rw (en, ek) at here)) (rw (en, ek) at others) bytes)
