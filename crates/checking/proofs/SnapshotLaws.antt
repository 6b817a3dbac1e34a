-- Sets of states that a loop gathers, and the snapshot that is made of them.
use Rattle.std.proofs.Common.{◌≡◌, ℕ, ◌+◌, ◌<◌, ◌≤◌, Bool, true, false, ◌&&◌, ◌||◌, eqb, ltb, ◌⊎◌, List, sym, ap, ◌∙◌, subst, inl, inr, arith}
use Rattle.std.proofs.lemmas.Bool.{eq-eqb, ne_eqb, lt-ltb, le-ltb, lt-leb, le-leb, cases_lt, cases_eq, cases_Bool, ltb-true, and_parts, and_from}
use Rattle.games.specs.Machines.{Model, Marks, Lawful, forbidden_in, goal_in}
use Rattle.checking.specs.declared.state_set.StateSet.{StateSet}
use Rattle.checking.specs.StateSets.{member}
use Rattle.checking.specs.Sources.{row_of, rows_move}
use Rattle.checking.specs.Snapshots.{set_forbidden, set_goal}

-- of the states below i a set has those that pass, and it has no other
pub record Gathered (P : ℕ → Bool → Type 0) (x : StateSet) (i : ℕ) : Type 0 where
  pub below : (u : ℕ) → u < i → P u (member x u)
  pub above : (u : ℕ) → i ≤ u → member x u ≡ false

module _ (P : ℕ → Bool → Type 0) where
  module _ (x : StateSet) (i : ℕ) (g : Gathered P x i) where
    pub gather_put : (y : StateSet) → ((u : ℕ) → member y u ≡ (eqb u i || member x u)) → P i true → Gathered P y (i + 1)
    gather_put y put p = record {
      below = λ u h. elim (cases_eq u i) [
        | inl e ↦ subst (P u) (sym (put u ∙ ap (λ b. b || member x u) (eq-eqb u i e))) (subst (λ v. P v true) (sym e) p)
        | inr n ↦ subst (P u) (sym (other u n)) (g.below u (omega (arith, n)))
      ];
      above = λ u h. other u (λ e. omega arith) ∙ g.above u (omega arith);
    }
      where
        other : (u : ℕ) → (u ≡ i → ⊥) → member y u ≡ member x u
        other u n = put u ∙ ap (λ b. b || member x u) (ne_eqb u i n)

    pub gather_skip : P i false → Gathered P x (i + 1)
    gather_skip p = record {
      below = λ u h. elim (cases_eq u i) [
        | inl e ↦ subst (P u) (sym (g.above u (omega arith))) (subst (λ v. P v false) (sym e) p)
        | inr n ↦ g.below u (omega (arith, n))
      ];
      above = λ u h. g.above u (omega arith);
    }

-- a move out of range is none
pub no_move : (m : Model) → Lawful m → (s x b t : ℕ) → ((s < m.states) × (x < 4) × (b < 4) → ⊥) → m.move s x b t ≡ false
no_move m w s x b t n = elim (cases_Bool (m.move s x b t)) [
  | inl e ↦ (let i = w.inside s x b t e in absurd (n (i.0, omega (arith, i.1, w.few_own), omega (arith, i.2, w.few_partner))))
  | inr e ↦ e
]

module _ (n : ℕ) (rows : List (List (List StateSet))) (s x b : ℕ) where
  -- in range, a move is in its row
  pub move_row : s < n → x < 4 → b < 4 → (t : ℕ) → rows_move n rows s x b t ≡ member (row_of rows s x b) t
  move_row hs hx hb t = ap (λ c. c && member (row_of rows s x b) t) (and_from _ _ (lt-ltb s n hs) (and_from _ _ (lt-ltb x 4 hx) (lt-ltb b 4 hb)))

  pub move_none : ((s < n) × (x < 4) × (b < 4) → ⊥) → (t : ℕ) → rows_move n rows s x b t ≡ false
  move_none never t = ap (λ c. c && member (row_of rows s x b) t) (out (cases_Bool (ltb s n && (ltb x 4 && ltb b 4))))
    where
      out : ((ltb s n && (ltb x 4 && ltb b 4)) ≡ true) ⊎ ((ltb s n && (ltb x 4 && ltb b 4)) ≡ false) → (ltb s n && (ltb x 4 && ltb b 4)) ≡ false
      out (inl e) = let h = and_parts _ _ e in let k = and_parts _ _ h.1 in absurd (never (ltb-true s n h.0, ltb-true x 4 k.0, ltb-true b 4 k.1))
      out (inr e) = e

-- the rows of the states below k hold the moves
abbrev pub Filled : Model → List (List (List StateSet)) → ℕ → Type 0
Filled m rows k = (s x b t : ℕ) → s < k → x < 4 → b < 4 → member (row_of rows s x b) t ≡ m.move s x b t

module _ (m : Model) (w : Lawful m) (n : ℕ) (e : n ≡ m.states) where
  pub moves_taken : (rows : List (List (List StateSet))) → ((s x b t : ℕ) → s < m.states → x < 4 → b < 4 → member (row_of rows s x b) t ≡ m.move s x b t) → (s x b t : ℕ) → rows_move n rows s x b t ≡ m.move s x b t
  moves_taken rows filled s x b t = elim (cases_lt s m.states) [
    | inr h ↦ none (λ i. omega (arith, i.0))
    | inl hs ↦ elim (cases_lt x 4) [
      | inr h ↦ none (λ i. omega (arith, i.1))
      | inl hx ↦ elim (cases_lt b 4) [
        | inr h ↦ none (λ i. omega (arith, i.2))
        | inl hb ↦ move_row n rows s x b (omega arith) hx hb t ∙ filled s x b t hs hx hb
      ]
    ]
  ]
    where
      none : ((s < m.states) × (x < 4) × (b < 4) → ⊥) → rows_move n rows s x b t ≡ m.move s x b t
      none never = move_none n rows s x b (λ i. never (omega (arith, i.0, e), i.1, i.2)) t ∙ sym (no_move m w s x b t never)

  pub forbidden_taken : (k : Marks) (set : StateSet) → ((t : ℕ) → t < m.states → member set t ≡ forbidden_in m k t) → (s : ℕ) → set_forbidden n set s ≡ forbidden_in m k s
  forbidden_taken k set h s = elim (cases_lt s m.states) [
    | inl l ↦ ap (λ b. b || member set s) (lt-leb n s (omega arith)) ∙ h s l
    | inr l ↦ ap (λ b. b || member set s) (le-leb n s (omega arith)) ∙ sym (ap (λ b. b || k.forbidden s) (le-leb m.states s l))
  ]

  pub goals_taken : (k : Marks) (set : StateSet) → ((t : ℕ) → t < m.states → member set t ≡ goal_in m k t) → (s : ℕ) → set_goal n set s ≡ goal_in m k s
  goals_taken k set h s = elim (cases_lt s m.states) [
    | inl l ↦ ap (λ b. b && member set s) (lt-ltb s n (omega arith)) ∙ h s l
    | inr l ↦ ap (λ b. b && member set s) (le-ltb s n (omega arith)) ∙ sym (ap (λ b. b && k.goal s) (le-ltb s m.states l))
  ]
