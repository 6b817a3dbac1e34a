-- A run of calls, one more at a time.
use Rattle.std.proofs.Common.{◌≡◌, ℕ, zero, suc, ◌+◌, ◌<◌, ◌≤◌, min, List, [], ◌∷◌, ◌++◌, length, map, take, drop, set, get_or, get_or-set_same, inl, inr, sym, refl, ap, subst, ◌∙◌, arith}
use Rattle.std.proofs.lemmas.Bool.{cases_lt}
use Rattle.std.proofs.lemmas.List.{take_more, take-set, drop_more, length-append, length-map, length-set, map-append}
use Rattle.std.proofs.Math.ListN.{get_or-map}
use Rattle.games.specs.Machines.{Model, Marks}
use Rattle.cell.specs.declared.cell.Cell.{Cell}
use Rattle.cell.specs.declared.calls.Answer.{Answer}
use Rattle.cell.specs.declared.calls.Call.{Call}
use Rattle.cell.specs.Logs.{Games, Log, Event, Told, first, run, answers, after, all_answers}
use Rattle.cell.specs.Running.{Good}
use Rattle.cell.specs.Cells.{told, event, games, both_mean, Tells, Heard, Made, Replayed, Fills}
use Rattle.cell.proofs.AcceptedLaws.{law_by}
use Rattle.cell.proofs.GoalLaws.{in_time}

-- one more call at the end
all_more : (g : Games) (es : List Event) (e : Event) (l : Log) → all_answers g (es ++ e ∷ []) l ≡ all_answers g es l ++ answers g (run g es l) e ∷ []
unfolding run all_answers
all_more g [] e l = refl
all_more g (x ∷ es) e l = ap (λ (r : List Told). answers g l x ∷ r) (all_more g es e (after g l x))

take_none : {X : Type 0} (n : ℕ) → take {A = X} n [] ≡ []
take_none zero = refl
take_none (suc n) = refl

take_past : {X : Type 0} (n : ℕ) (xs : List X) → length xs ≤ n → take n xs ≡ xs
take_past n [] h = take_none n
take_past zero (x ∷ xs) h = absurd (omega arith)
take_past (suc n) (x ∷ xs) h = ap (λ r. x ∷ r) (take_past n xs (omega arith))

take_within : {X : Type 0} (n : ℕ) (xs ys : List X) → n ≤ length xs → take n (xs ++ ys) ≡ take n xs
take_within zero xs ys h = refl
take_within (suc n) [] ys h = absurd (omega arith)
take_within (suc n) (x ∷ xs) ys h = ap (λ r. x ∷ r) (take_within n xs ys (omega arith))

abbrev tail : {X : Type 0} → List X → List X
tail [] = []
tail (x ∷ xs) = xs

-- lists that are the same from a place on are so from the next
pub same_rest : {X : Type 0} (xs ys : List X) (i : ℕ) (d : X) → i < length xs → i < length ys → drop i xs ≡ drop i ys → drop (i + 1) xs ≡ drop (i + 1) ys
same_rest xs ys i d h k e = ap tail (sym (drop_more xs i d h) ∙ e ∙ drop_more ys i d k)

-- one more call, and one more answer
more_events : (calls : List Call) (i : ℕ) (k : Call) → i < length calls → k ≡ get_or calls i k → take (i + 1) (map event calls) ≡ take i (map event calls) ++ event k ∷ []
more_events calls i k h e =
    take_more (map event calls) i (event k) (omega (arith, h, length-map calls event))
    ∙ ap (λ x. take i (map event calls) ++ x ∷ []) (get_or-map event calls i k ∙ ap event (sym e))

more_answers : (xs : List Answer) (i : ℕ) (a : Answer) → i < length xs → map told (take (i + 1) (set xs i a)) ≡ map told (take i xs) ++ told a ∷ []
more_answers xs i a h =
    ap (map told) (take_more (set xs i a) i a (omega (arith, h, length-set xs i a))
    ∙ ap (λ ys. ys ++ get_or (set xs i a) i a ∷ []) (take-set xs i a)
    ∙ ap (λ y. take i xs ++ y ∷ []) (get_or-set_same xs i a a h))
    ∙ map-append told (take i xs) (a ∷ [])

module _ {A B : Type 0} (m0 : A → Model) (k0 : A → Marks) (m1 : B → Model) (k1 : B → Marks) (x : A) (y : B) where
  abbrev g : Games
  g = both_mean m0 k0 m1 k1 x y

  -- a cell that has heard some calls, with the answers
  pub record Going (events : List Event) (given : List Told) (c : Cell A B) : Type 0 where
    pub first_game : c.first ≡ x
    pub second_game : c.second ≡ y
    pub tells : Tells m0 k0 m1 k1 events c
    pub replayed : Replayed g events given
    pub goods : (n : ℕ) → Good g (run g (take n events) (first g))

  same : (c : Cell A B) → c.first ≡ x → c.second ≡ y → games m0 k0 m1 k1 c ≡ g
  same c p q = ap (λ (a : A). both_mean m0 k0 m1 k1 a c.second) p ∙ ap (λ (b : B). both_mean m0 k0 m1 k1 x b) q

  good_at : (events : List Event) (c : Cell A B) → c.first ≡ x → c.second ≡ y → Tells m0 k0 m1 k1 events c → Good g (run g events (first g))
  good_at events c p q t = subst (λ (b : Games). Good b (run b events (first b))) (same c p q) (subst (Good (games m0 k0 m1 k1 c)) t.same t.good)

  -- what every log keeps is the law
  replayed_by : (events : List Event) (given : List Told) → given ≡ all_answers g events (first g) → ((n : ℕ) → Good g (run g (take n events) (first g))) → Replayed g events given
  replayed_by events given e goods = record {
    answered = e;
    law = λ n. law_by g (take n events) (goods n);
    in_time = in_time g events goods;
  }

  pub going_start : (c : Cell A B) → Made m0 k0 m1 k1 x y c → Going [] [] c
  unfolding all_answers
  going_start c h =
      let goods : (n : ℕ) → Good g (run g (take n []) (first g)) = λ n. subst (λ (es : List Event). Good g (run g es (first g))) (sym (take_none n)) (good_at [] c h.first_game h.second_game h.tells) in
      record { first_game = h.first_game; second_game = h.second_game; tells = h.tells; replayed = replayed_by [] [] refl goods; goods = goods }

  pub going_more : (events : List Event) (given : List Told) (c d : Cell A B) (e : Event) (a : Told) → Going events given c → Heard m0 k0 m1 k1 c e a d → Going (events ++ e ∷ []) (given ++ a ∷ []) d
  going_more events given c d e a r h =
      let p : d.first ≡ x = h.first_game ∙ r.first_game in
      let q : d.second ≡ y = h.second_game ∙ r.second_game in
      let tells = h.tells events r.tells in
      let whole = good_at (events ++ e ∷ []) d p q tells in
      let last : a ≡ answers g (run g events (first g)) e = subst (λ (b : Games). a ≡ answers b (run b events (first b)) e) (same c r.first_game r.second_game) (h.answered events r.tells) in
      let goods : (n : ℕ) → Good g (run g (take n (events ++ e ∷ [])) (first g)) = λ n. elim (cases_lt (length events) n) [
        | inl l ↦ subst (λ (es : List Event). Good g (run g es (first g))) (sym (take_past n (events ++ e ∷ []) (omega (arith, length-append events (e ∷ []))))) whole
        | inr l ↦ subst (λ (es : List Event). Good g (run g es (first g))) (sym (take_within n events (e ∷ []) l)) (r.goods n)
      ] in
      record {
        first_game = p;
        second_game = q;
        tells = tells;
        replayed = replayed_by (events ++ e ∷ []) (given ++ a ∷ [])
            (ap (λ (g : List Told). g ++ a ∷ []) r.replayed.answered ∙ ap (λ z. all_answers g events (first g) ++ z ∷ []) last ∙ sym (all_more g events e (first g)))
            goods;
        goods = goods;
      }

  pub going_next : (calls : List Call) (i : ℕ) (answers : List Answer) (c d : Cell A B) (k : Call) (a : Answer) → i < length calls → i < length answers → k ≡ get_or calls i k →
      Going (take i (map event calls)) (map told (take i answers)) c → Heard m0 k0 m1 k1 c (event k) (told a) d → Going (take (i + 1) (map event calls)) (map told (take (i + 1) (set answers i a))) d
  going_next calls i answers c d k a h j e r t =
      subst (λ (es : List Event). Going es (map told (take (i + 1) (set answers i a))) d) (sym (more_events calls i k h e))
      (subst (λ (given : List Told). Going (take i (map event calls) ++ event k ∷ []) given d) (sym (more_answers answers i a j))
      (going_more (take i (map event calls)) (map told (take i answers)) c d (event k) (told a) r t))

  -- when as many calls were heard as there is room for their answers
  pub fills : (calls : List Call) (old new : List Answer) (i count : ℕ) (c : Cell A B) → count ≡ min (length calls) (length old) → i ≡ count →
      Going (take i (map event calls)) (map told (take i new)) c → drop i new ≡ drop i old → length new ≡ length old → Fills g (map event calls) old new count
  fills calls old new i count c n e r rest size = record {
    many = omega (arith, n, length-map calls event);
    replayed = subst (λ (j : ℕ). Replayed g (take j (map event calls)) (map told (take j new))) e r.replayed;
    rest = subst (λ (j : ℕ). drop j new ≡ drop j old) e rest;
    size = size;
  }
