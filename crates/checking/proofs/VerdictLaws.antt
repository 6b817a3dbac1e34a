-- What one verdict says of other candidates: more to promise and less to rely on keeps a controller.
use Rattle.std.proofs.Common.{◌≡◌, ℕ, zero, suc, ◌+◌, ◌*◌, ◌<◌, ◌≤◌, Bool, true, false, not, Option, Some, None, List, length, get_or, set, replicate, vec_items, ◌⊎◌, ◌≢◌, eqb, refl, sym, ap, ◌∙◌, subst, inl, inr, Decides, arith}
use Rattle.std.proofs.lemmas.Bool.{cases_eq, cases_lt, and_parts, and_from, ne_eqb, eq-eqb, false≢true}
use Rattle.std.specs.Bool.{beq}
use Rattle.std.proofs.lemmas.List.{get_or-set_same, get_or-set_other}
use Rattle.reading.specs.declared.sides.Sides.{Sides}
use Rattle.reading.specs.declared.phase_table.PhaseTable.{PhaseTable}
use Rattle.games.specs.Sets.{width, has}
use Rattle.games.specs.declared.deal.Deal.{Deal}
use Rattle.games.specs.Signings.{Dealt}
use Rattle.checking.specs.declared.snapshot.Snapshot.{Snapshot}
use Rattle.checking.specs.declared.ranking.Entry.{Entry}
use Rattle.checking.specs.declared.ranking.Ranking.{Ranking}
use Rattle.checking.specs.Solving.{absent, Stable, ranks_in, choices_in}
use Rattle.checking.proofs.PlayLaws.{snap_bounded}
use Rattle.checking.proofs.PlaceLaws.{rank_read}
use Rattle.checking.proofs.SolutionLaws.{solved, starts, none_controls}
use Rattle.checking.specs.Snapshots.{snap_arena}
use Rattle.checking.specs.Arenas.{Arena, promised, relied}
use Rattle.checking.specs.Controllers.{Plan, Serves, Controlled}
use Rattle.checking.specs.Searching.{candidate, how_many, terms_of}
use Rattle.checking.specs.declared.search.player.Player.{Player}
use Rattle.checking.specs.declared.search.seek.Seeker.{Seeker}
use Rattle.checking.specs.Verdicts.{Verdict, Knows, Within, Ordered, upward, Onward, BothWin, OneFails, NoneWins}

-- a settled ranking has a rank at the start exactly if there is a controller
pub controls_by : (z : Snapshot) (t : PhaseTable) (d : Deal) (side : ℕ) (r : Ranking) → Stable (snap_arena z t d side) (ranks_in (snap_arena z t d side) r) (choices_in (snap_arena z t d side) r) →
    Decides (not (eqb (get_or (vec_items r.entries) (z.frame.start * 8 + 0) absent).rank 65535)) (Controlled (snap_arena z t d side))
controls_by z t d side r st = (yes, λ y. no y (cases_eq e.rank 65535))
  where
    a : Arena
    a = snap_arena z t d side

    e : Entry
    e = get_or (vec_items r.entries) (z.frame.start * 8 + 0) absent

    rank : ranks_in a r a.start 0 ≡ e.rank
    rank = let b = snap_bounded z t d side in rank_read a b a.start 0 b.starts b.some_phase r e refl

    yes : not (eqb e.rank 65535) ≡ true → Controlled a
    yes h =
        let n : e.rank ≢ 65535 = λ q. false≢true (sym (ap not (eq-eqb _ _ q)) ∙ h) in
        (record { choice = choices_in a r; rank = ranks_in a r }, record { rival = (solved a _ _ st).rival; starts = starts a _ _ st (omega (arith, rank, n, (st.shaped a.start 0).capped)) })

    no : Controlled a → (e.rank ≡ 65535) ⊎ (e.rank ≢ 65535) → not (eqb e.rank 65535) ≡ true
    no y (inl q) = absurd (none_controls a _ _ st (omega (arith, rank, q)) y.0 y.1)
    no y (inr q) = ap not (ne_eqb _ _ q)

-- a controller stays one where its side promises more and relies on less
module _ (z : Snapshot) (t : PhaseTable) (side : ℕ) (d e : Deal) (more : (p x : ℕ) → promised d side p x ≡ true → promised e side p x ≡ true) (less : (p x : ℕ) → relied e side p x ≡ true → relied d side p x ≡ true) where
  serves_on : (c : Plan) (s p x : ℕ) → Serves (snap_arena z t d side) c s p x → Serves (snap_arena z t e side) c s p x
  serves_on c s p x w = record {
    promised = more p x w.promised;
    goes = λ b h. w.goes b (less p b h);
    stays = λ b u h. w.stays b u (less p b h);
    falls = λ b u h. w.falls b u (less p b h);
  }

  pub eased : Controlled (snap_arena z t d side) → Controlled (snap_arena z t e side)
  eased y = (
    y.0,
    record {
      rival = record {
        inside = y.1.rival.inside;
        safe = y.1.rival.safe;
        ranked = y.1.rival.ranked;
        zero_at_goals = y.1.rival.zero_at_goals;
        goals_at_zero = y.1.rival.goals_at_zero;
        serves = λ s p k. serves_on y.0 s p (y.0.choice s p) (y.1.rival.serves s p k);
      };
      starts = y.1.starts;
    },
  )

-- the signals of a set that lies within another
has_within : (x y p j : ℕ) → Within x y → has width x p j ≡ true → has width y p j ≡ true
has_within x y p j w e = let h = and_parts _ _ e in and_from _ _ h.0 (w (width * p + j) h.1)

-- on two candidates
module _ (z : Snapshot) (t : PhaseTable) (c e : Sides ℕ) where
  abbrev On : Sides ℕ → Deal → Type 0
  On c d = Dealt t.sizes (terms_of c) d

  module _ (d f : Deal) (h : On c d) (l : On e f) where
    first_eased : Within c.first e.first → Within e.second c.second → Controlled (snap_arena z t d 0) → Controlled (snap_arena z t f 0)
    first_eased u v = eased z t 0 d f
        (λ p x. rw (h.terms, l.terms) (has_within c.first e.first p x u))
        (λ p x. rw (h.terms, l.terms) (has_within e.second c.second p x v))

    second_eased : (n : ℕ) → Within e.first c.first → Within c.second e.second → Controlled (snap_arena z t d (suc n)) → Controlled (snap_arena z t f (suc n))
    second_eased n u v = eased z t (suc n) d f
        (λ p x. rw (h.terms, l.terms) (has_within c.second e.second p x v))
        (λ p x. rw (h.terms, l.terms) (has_within e.first c.first p x u))

down : (n : ℕ) (won : Bool) → upward (suc n) won ≡ beq false won
down n won = ap (λ b. beq b won) (ne_eqb (suc n) 0 (λ h. omega (arith, h)))

module _ (z : Snapshot) (t : PhaseTable) (c e : Sides ℕ) (k : Deal) (on : Dealt t.sizes (terms_of c) k) where
  -- a verdict goes on to the candidates that it decides
  pub decided : (side : ℕ) (won : Bool) → Verdict z t side c (Some won) →
      Ordered (upward side won) c.first e.first → Ordered (not (upward side won)) c.second e.second → Verdict z t side e (Some won)
  decided zero true v u w = λ f l. first_eased z t c e k f on l u w (v k on)
  decided zero false v u w = λ f l y. v k on (first_eased z t e c f k l on u w y)
  decided (suc n) true v u w = λ f l.
      second_eased z t c e k f on l n (subst (λ b. Ordered b c.first e.first) (down n true) u) (subst (λ b. Ordered (not b) c.second e.second) (down n true) w) (v k on)
  decided (suc n) false v u w = λ f l y. v k on
      (second_eased z t e c f k l on n (subst (λ b. Ordered b c.first e.first) (down n false) u) (subst (λ b. Ordered (not b) c.second e.second) (down n false) w) y)

-- one more verdict
pub noted : (z : Snapshot) (t : PhaseTable) (side : ℕ) (vs : List (Option Bool)) (i : ℕ) (won : Bool) → i < length vs →
    ((j : ℕ) → j < how_many t.sizes → Verdict z t side (candidate t.sizes j) (get_or vs j None)) → Verdict z t side (candidate t.sizes i) (Some won) →
    (j : ℕ) → j < how_many t.sizes → Verdict z t side (candidate t.sizes j) (get_or (set vs i (Some won)) j None)
noted z t side vs i won l know v j h = elim (cases_eq j i) [
  | inl e ↦ rw e (rw (get_or-set_same vs i (Some won) None l) v)
  | inr n ↦ rw (get_or-set_other vs i j (Some won) None n) (know j h)
]

-- nothing is known at first
all_none : (n i : ℕ) → ◌≡◌ {A = Option Bool} (get_or (replicate n None) i None) None
all_none zero i = refl
all_none (suc n) zero = refl
all_none (suc n) (suc i) = all_none n i

pub nothing_known : (t : PhaseTable) (side : ℕ) (y : Player) → vec_items y.verdicts ≡ replicate 65535 None → Knows t side y
nothing_known t side y e i h = rw (e, all_none 65535 i) tt

-- a verdict on the game that a step kept
pub verdict_back : (t : PhaseTable) (side : ℕ) (c : Sides ℕ) (old new : Snapshot) (won : Bool) {b : Bool} → b ≡ won → new ≡ old → Verdict new t side c (Some b) → Verdict old t side c (Some won)
verdict_back t side c old new won e q v = subst (λ (z : Snapshot). Verdict z t side c (Some won)) q (subst (λ (b : Bool). Verdict new t side c (Some b)) e v)

module _ {t : PhaseTable} where
  pub onward : {y z w : Seeker} → Onward t y z → Onward t z w → Onward t y w
  onward a b = record { know = b.know; first = b.first ∙ a.first; second = b.second ∙ a.second }

  module _ {y z : Seeker} (a : Onward t y z) {c : Sides ℕ} where
    pub both_back : BothWin z t c → BothWin y t c
    both_back b = record {
      first = verdict_back t 0 c y.first.snapshot z.first.snapshot true refl a.first b.first;
      second = verdict_back t 1 c y.second.snapshot z.second.snapshot true refl a.second b.second;
    }

    pub one_back : OneFails z t c → OneFails y t c
    one_back (inl v) = inl (verdict_back t 0 c y.first.snapshot z.first.snapshot false refl a.first v)
    one_back (inr v) = inr (verdict_back t 1 c y.second.snapshot z.second.snapshot false refl a.second v)

module _ (t : PhaseTable) (y : Seeker) (n : ℕ) (none : NoneWins y t n) where
  pub none_next : OneFails y t (candidate t.sizes n) → NoneWins y t (n + 1)
  none_next v i h = elim (cases_lt i n) [ inl l ↦ none i l | inr l ↦ (let e : i ≡ n = omega arith in rw e v) ]

  pub none_fewer : (m : ℕ) → m ≤ n → NoneWins y t m
  none_fewer m l i h = none i (omega (arith, l, h))
