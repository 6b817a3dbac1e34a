-- There is one solved plan, and one record that holds it.
use Rattle.std.proofs.Common.{◌≡◌, ℕ, zero, suc, ◌+◌, ◌-◌, ◌*◌, ◌/◌, ◌%◌, ◌<◌, ◌≤◌, true, ◌⊎◌, List, length, drop, sym, ap, ◌∙◌, subst, inl, inr, mul_comm, arith}
use Rattle.std.proofs.lemmas.List.{get_or-take, get_or-drop, ext_get_or}
use Rattle.std.proofs.lemmas.Bool.{cases_lt, cases_eq, lt-ltb, and_from, cond-true}
use Rattle.std.proofs.lemmas.Nat.{mul-add-lt, div_below, mod_below, div-add-mod'}
use Rattle.reading.specs.Bytes.{byte, pair}
use Rattle.reading.specs.Limits.{AllBelow}
use Rattle.reading.specs.Records.{parts_in, size_in, inside, choice_at, rank_at}
use Rattle.checking.specs.Arenas.{Arena}
use Rattle.checking.specs.Controllers.{Plan, Kept, Serves}
use Rattle.checking.specs.Solutions.{Solved}

-- two solved plans agree
module _ (a : Arena) (c e : Plan) (f : Solved a c) (g : Solved a e) where
  kept_both : (s p : ℕ) → Kept c s p → Kept e s p
  kept_both s p = g.keeps c f.rival s p

  kept_back : (s p : ℕ) → Kept e s p → Kept c s p
  kept_back s p = f.keeps e g.rival s p

  same_rank : (s p : ℕ) → Kept c s p → c.rank s p ≡ e.rank s p
  same_rank s p k = omega (arith, f.least e g.rival s p (kept_both s p k), g.least c f.rival s p k)

  -- what serves in one serves in the other
  serves_both : (s p x : ℕ) → Kept c s p → Serves a c s p x → Serves a e s p x
  serves_both s p x k w = record {
    promised = w.promised;
    goes = w.goes;
    stays = λ b t h m. kept_both _ _ (w.stays b t h m);
    falls = λ b t h m n. omega (arith, same_rank _ _ (w.stays b t h m), same_rank s p k, w.falls b t h m n);
  }

  lower_choice : (s p : ℕ) → Kept c s p → e.choice s p ≤ c.choice s p
  lower_choice s p k = g.lowest s p (c.choice s p) (kept_both s p k) (serves_both s p (c.choice s p) k (f.rival.serves s p k))

-- a position is kept or both its entries are absent
kept_or : (c : Plan) (s p : ℕ) → Kept c s p ⊎ ((c.choice s p ≡ 255) × (c.rank s p ≡ 65535))
kept_or c s p = elim (cases_eq (c.choice s p) 255) [
  | inr n ↦ inl (λ h. n h.0)
  | inl e ↦ elim (cases_eq (c.rank s p) 65535) [ inr n ↦ inl (λ h. n h.1) | inl f ↦ inr (e, f) ]
]

module _ (a : Arena) (c e : Plan) (f : Solved a c) (g : Solved a e) where
  pub same_entries : (s p : ℕ) → (c.choice s p ≡ e.choice s p) × (c.rank s p ≡ e.rank s p)
  same_entries s p = elim (kept_or c s p) [
    | inl k ↦ (let k' = kept_both a c e f g s p k in
        (omega (arith, lower_choice a c e f g s p k, lower_choice a e c g f s p k'), same_rank a c e f g s p k))
    | inr n ↦ elim (kept_or e s p) [
      | inl k' ↦ absurd (kept_back a c e f g s p k' n)
      | inr n' ↦ (n.0 ∙ sym n'.0, n.1 ∙ sym n'.1)
    ]
  ]

-- the entries of a record as its plan has them
module _ (xs : List ℕ) (s p : ℕ) (hs : s < pair xs 0) (hp : p < byte xs 2) where
  in_record : inside (parts_in xs) s p ≡ true
  in_record = and_from _ _ (lt-ltb s (pair xs 0) hs) (lt-ltb p (byte xs 2) hp)

  place_low : s * byte xs 2 + p < size_in xs
  place_low = rw (mul_comm (pair xs 0) (byte xs 2)) (mul-add-lt s (byte xs 2) p (pair xs 0) hs hp)

  pub choice_byte : choice_at (parts_in xs) s p ≡ byte xs (4 + (s * byte xs 2 + p))
  choice_byte = cond-true _ _ _ in_record ∙ get_or-take (size_in xs) (drop 4 xs) (s * byte xs 2 + p) 0 place_low ∙ get_or-drop 4 xs (s * byte xs 2 + p) 0

  dropped : (i : ℕ) → byte (drop (size_in xs) (drop 4 xs)) i ≡ byte xs (4 + size_in xs + i)
  dropped i =
      let e : 4 + (size_in xs + i) ≡ 4 + size_in xs + i = omega arith in
      get_or-drop (size_in xs) (drop 4 xs) i 0 ∙ get_or-drop 4 xs (size_in xs + i) 0 ∙ ap (byte xs) e

  pub rank_pair : rank_at (parts_in xs) s p ≡ pair xs (4 + size_in xs + 2 * (s * byte xs 2 + p))
  rank_pair =
      let i = 2 * (s * byte xs 2 + p) in
      let e : 4 + size_in xs + (i + 1) ≡ 4 + size_in xs + i + 1 = omega arith in
      cond-true _ _ _ in_record ∙ ap (λ n. n + 256 * byte (drop (size_in xs) (drop 4 xs)) (i + 1)) (dropped i)
      ∙ ap (λ n. byte xs (4 + size_in xs + i) + 256 * n) (dropped (i + 1) ∙ ap (byte xs) e)

-- bytes of a two-byte number
pair_bytes : (a b c d : ℕ) → a < 256 → c < 256 → a + 256 * b ≡ c + 256 * d → (a ≡ c) × (b ≡ d)
pair_bytes a b c d l m e = (omega arith, omega arith)

-- an index of a record: in the head, among the choices, or the low or the high byte of a rank
module _ (xs ys : List ℕ) (lx : AllBelow 256 xs) (ly : AllBelow 256 ys) (n : pair xs 0 ≡ pair ys 0) (q : byte xs 2 ≡ byte ys 2) (k : byte xs 3 ≡ byte ys 3) (some : 0 < byte xs 2)
    (same : (s p : ℕ) → (choice_at (parts_in xs) s p ≡ choice_at (parts_in ys) s p) × (rank_at (parts_in xs) s p ≡ rank_at (parts_in ys) s p)) where
  same_size : size_in xs ≡ size_in ys
  same_size = ap (λ i. i * byte xs 2) n ∙ ap (λ i. pair ys 0 * i) q

  -- what holds by position holds by index
  by_position : (F : ℕ → Type 0) → ((s p : ℕ) → s < pair xs 0 → p < byte xs 2 → F (s * byte xs 2 + p)) → (j : ℕ) → j < size_in xs → F j
  by_position F f j h =
      subst F (div-add-mod' j (byte xs 2)) (f (j / byte xs 2) (j % byte xs 2) (div_below j (byte xs 2) (pair xs 0) some h) (mod_below j (byte xs 2) some))

  at_choice : (j : ℕ) → j < size_in xs → byte xs (4 + j) ≡ byte ys (4 + j)
  at_choice = by_position (λ (j : ℕ). byte xs (4 + j) ≡ byte ys (4 + j)) (λ s p hs hp.
      sym (choice_byte xs s p hs hp) ∙ (same s p).0 ∙ choice_byte ys s p (omega (arith, hs, n)) (omega (arith, hp, q)) ∙ ap (λ i. byte ys (4 + (s * i + p))) (sym q))

  at_rank : (j : ℕ) → j < size_in xs → pair xs (4 + size_in xs + 2 * j) ≡ pair ys (4 + size_in xs + 2 * j)
  at_rank = by_position (λ (j : ℕ). pair xs (4 + size_in xs + 2 * j) ≡ pair ys (4 + size_in xs + 2 * j)) (λ s p hs hp.
      sym (rank_pair xs s p hs hp) ∙ (same s p).1 ∙ rank_pair ys s p (omega (arith, hs, n)) (omega (arith, hp, q))
      ∙ ap (λ i. pair ys (4 + size_in ys + 2 * (s * i + p))) (sym q) ∙ ap (λ i. pair ys (4 + i + 2 * (s * byte xs 2 + p))) (sym same_size))

  at_byte : (i : ℕ) → i < 4 + 3 * size_in xs → byte xs i ≡ byte ys i
  at_byte i h = elim (cases_lt i 4) [
    | inl l ↦ head i l
    | inr g ↦ elim (cases_lt i (4 + size_in xs)) [
      | inl l ↦ (let e : 4 + (i - 4) ≡ i = omega arith in ap (byte xs) (sym e) ∙ at_choice (i - 4) (omega arith) ∙ ap (byte ys) e)
      | inr g' ↦ tail (i - (4 + size_in xs)) (omega arith) (omega arith)
    ]
  ]
    where
      head : (i : ℕ) → i < 4 → byte xs i ≡ byte ys i
      head zero l = (pair_bytes (byte xs 0) (byte xs 1) (byte ys 0) (byte ys 1) (lx 0) (ly 0) n).0
      head (suc zero) l = (pair_bytes (byte xs 0) (byte xs 1) (byte ys 0) (byte ys 1) (lx 0) (ly 0) n).1
      head (suc (suc zero)) l = q
      head (suc (suc (suc zero))) l = k
      head (suc (suc (suc (suc i)))) l = absurd (omega arith)

      tail : (j : ℕ) → 4 + size_in xs + j ≡ i → j < 2 * size_in xs → byte xs i ≡ byte ys i
      tail j e l =
          let m = 4 + size_in xs + 2 * (j / 2) in
          let w = pair_bytes (byte xs m) (byte xs (m + 1)) (byte ys m) (byte ys (m + 1)) (lx m) (ly m) (at_rank (j / 2) (omega arith)) in
          elim (cases_eq (j % 2) 0) [
            | inl z ↦ (let f : m ≡ i = omega arith in ap (byte xs) (sym f) ∙ w.0 ∙ ap (byte ys) f)
            | inr z ↦ (let f : m + 1 ≡ i = omega arith in ap (byte xs) (sym f) ∙ w.1 ∙ ap (byte ys) f)
          ]

  pub same_bytes : length xs ≡ 4 + 3 * size_in xs → length ys ≡ 4 + 3 * size_in ys → xs ≡ ys
  same_bytes lenx leny = ext_get_or 0 xs ys (lenx ∙ ap (λ i. 4 + 3 * i) same_size ∙ sym leny) (λ i h. at_byte i (omega (arith, h, lenx)))
