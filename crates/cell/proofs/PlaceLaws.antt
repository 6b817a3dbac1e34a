-- A record's choices and ranks, in its bytes.
use Rattle.std.proofs.Common.{◌≡◌, ℕ, suc, ◌+◌, ◌*◌, ◌<◌, ◌≤◌, true, List, drop, sym, ap, ◌∙◌, mul-le-mul, arith}
use Rattle.std.proofs.lemmas.Bool.{and_parts, ltb-true}
use Rattle.std.proofs.lemmas.List.{get_or-take, get_or-drop}
use Rattle.reading.specs.Bytes.{byte, pair}
use Rattle.reading.specs.Records.{parts_in, size_in, inside, choice_at, rank_at}

module _ (xs : List ℕ) (s p : ℕ) (e : inside (parts_in xs) s p ≡ true) where
  -- a position's place is one of the record's
  below : s * byte xs 2 + p < size_in xs
  below =
      let h = and_parts _ _ e in
      let m : suc s * byte xs 2 ≤ size_in xs = mul-le-mul (ltb-true s (pair xs 0) h.0) (omega arith) in
      omega (arith, m, ltb-true p (byte xs 2) h.1)

  pub choice_read : byte xs (4 + (s * byte xs 2 + p)) ≡ choice_at (parts_in xs) s p
  choice_read = rw e (sym (get_or-take (size_in xs) (drop 4 xs) (s * byte xs 2 + p) 0 below ∙ get_or-drop 4 xs (s * byte xs 2 + p) 0))

  rank_byte : (j : ℕ) → byte xs (4 + size_in xs + j) ≡ byte (drop (size_in xs) (drop 4 xs)) j
  rank_byte j =
      let h : 4 + size_in xs + j ≡ 4 + (size_in xs + j) = omega arith in
      rw h (sym (get_or-drop (size_in xs) (drop 4 xs) j 0 ∙ get_or-drop 4 xs (size_in xs + j) 0))

  pub rank_read : pair xs (4 + size_in xs + 2 * (s * byte xs 2 + p)) ≡ rank_at (parts_in xs) s p
  rank_read =
      let k = 2 * (s * byte xs 2 + p) in
      let next : 4 + size_in xs + k + 1 ≡ 4 + size_in xs + (k + 1) = omega arith in
      rw e (ap (λ x. x + 256 * byte xs (4 + size_in xs + k + 1)) (rank_byte k)
      ∙ ap (λ i. byte (drop (size_in xs) (drop 4 xs)) k + 256 * byte xs i) next
      ∙ ap (λ x. byte (drop (size_in xs) (drop 4 xs)) k + 256 * x) (rank_byte (k + 1)))
