-- Looking a move up in a list.
use Rattle.std.proofs.Common.{◌≡◌, ℕ, ◌+◌, ◌<◌, ◌≤◌, Bool, true, false, ◌&&◌, ◌||◌, eqb, List, length, get_or, drop, sym, ap, ◌∙◌}
use Rattle.std.proofs.lemmas.List.{at_drop_more, at_drop_all}
use Rattle.std.proofs.lemmas.Bool.{or_left, and_from, eq-eqb}
use Rattle.reading.specs.declared.machine_sheet.Move.{Move}
use Rattle.games.specs.Listings.{listed}

abbrev none : Move
none = record { key = 0; target = 0 }

-- whether a move is the one that is looked for
abbrev pub same : Move → ℕ → ℕ → Bool
same m key target = eqb m.key key && eqb m.target target

module _ (ms : List Move) (key target i : ℕ) (inv : listed (drop i ms) key target ≡ listed ms key target) where
  step : i < length ms → listed (drop i ms) key target ≡ (same (get_or ms i none) key target || listed (drop (i + 1) ms) key target)
  step l = at_drop_more (λ zs. listed zs key target) ms i none l

  pub listed_here : i < length ms → (get_or ms i none).key ≡ key → (get_or ms i none).target ≡ target → true ≡ listed ms key target
  listed_here l k t = sym (or_left _ _ (and_from _ _ (eq-eqb _ _ k) (eq-eqb _ _ t))) ∙ sym (step l) ∙ inv

  pub listed_later : i < length ms → same (get_or ms i none) key target ≡ false → listed (drop (i + 1) ms) key target ≡ listed ms key target
  listed_later l e = sym (ap (λ b. b || listed (drop (i + 1) ms) key target) e) ∙ sym (step l) ∙ inv

  pub listed_never : length ms ≤ i → false ≡ listed ms key target
  listed_never l = sym (at_drop_all (λ zs. listed zs key target) ms i l) ∙ inv

-- a move is its key and its target
abbrev move : ℕ → ℕ → Move
move k t = record { key = k; target = t }

pub move_is : (m : Move) (k t : ℕ) → m.key ≡ k → m.target ≡ t → m ≡ move k t
move_is m k t p q = ap (λ (x : ℕ). move x m.target) p ∙ ap (λ (y : ℕ). move k y) q
