-- Lists of one word.
use Rattle.std.proofs.Common.{◌≡◌, ℕ, ◌<◌, Bool, true, List, [], ◌∷◌, length, map, slice_index_or, String, Global, string_bytes, sym, ◌∙◌, ap, arith}
use Rattle.std.specs.Str.{bytes_eq}
use Rattle.std.proofs.lemmas.Slice.Eq.{bytes_eq-Decides}

-- a list whose only word has such bytes
pub only_word : (ws : List (String Global)) (w : String Global) (bytes text : List ℕ) (same : Bool) →
    0 < length ws → length ws < 2 → w ≡ slice_index_or ws 0 w → bytes ≡ string_bytes w → same ≡ bytes_eq bytes text → same ≡ true →
    map string_bytes ws ≡ text ∷ []
only_word [] w bytes text same some few is has e taken = absurd (omega arith)
only_word (v ∷ []) w bytes text same some few is has e taken =
    let k : bytes ≡ text = (bytes_eq-Decides bytes text).0 (sym e ∙ taken) in
    ap (λ (z : List ℕ). z ∷ []) (ap string_bytes (sym is) ∙ sym has ∙ k)
only_word (v ∷ u ∷ ws) w bytes text same some few is has e taken = absurd (omega arith)
