-- What a pass over the positions knows on its way: layer by layer, giving up goals, keeping the targets alone.
use Rattle.std.proofs.Common.{◌≡◌, ℕ, ◌+◌, ◌*◌, ◌<◌, ◌≤◌, Bool, true, false, ◌||◌, eqb, ltb, ◌≢◌, List, length, get_or, set, vec_items, replicate, sym, refl, ap, ◌∙◌, subst, inl, inr, arith, length-set, get_or-set_other, get_or-set_same}
use mathlib.Core.Path.{fun_ext}
use Rattle.std.proofs.Math.Bool.{or-false, or-true}
use Rattle.std.proofs.lemmas.List.{get_or-replicate}
use Rattle.std.proofs.lemmas.Bool.{cases_lt, cases_eq, ltb-true, lt-ltb, le-ltb, eq-eqb, ne_eqb, false≢true, true≢false}
use Rattle.checking.specs.declared.state_set.StateSet.{StateSet}
use Rattle.checking.specs.declared.ranking.Entry.{Entry}
use Rattle.checking.specs.declared.ranking.Ranking.{Ranking}
use Rattle.checking.specs.StateSets.{member, nothing}
use Rattle.checking.specs.Arenas.{Arena}
use Rattle.checking.specs.Controllers.{Plan, Kept, Rival}
use Rattle.checking.specs.Solving.{absent, held, Lowest, Tracks, Least, Stable, Attracted, Layers, Bounded, Before, Written, ranks_in, choices_in, zeros, Layering, Joining, Barred, Target, Fresh, Resetting, Pruning, Chosen, Dropped, Renewed}
use Rattle.checking.proofs.PlaceLaws.{held_in, held_or, before_none, before_next, before_turn, before_all}
use Rattle.checking.proofs.SnapshotLaws.{Gathered, gather_skip}
use Rattle.checking.proofs.AttractorLaws.{leads_into, first_lowest, rival_leads, layered_least, full_else, layer_done, layered_stable, written_all, full_join, join, fresh_none, fresh_zero, fresh_layers}

-- sets that track all ranks track the ranks below any higher bound
pub tracks_top : (a : Arena) (sets : List StateSet) (rank : ℕ → ℕ → ℕ) (d e : ℕ) → d ≤ e → ((s p : ℕ) → rank s p < e → rank s p < d) → Tracks a sets rank d → Tracks a sets rank e
tracks_top a sets rank d e le low tr t q hq = tr t q hq ∙ (elim (cases_lt (rank t q) d) [
  | inl l ↦ lt-ltb _ d l ∙ sym (lt-ltb _ e (omega arith))
  | inr l ↦ elim (cases_lt (rank t q) e) [
    | inl m ↦ absurd (omega (arith, low t q m))
    | inr m ↦ le-ltb _ d l ∙ sym (le-ltb _ e m)
  ]
])

module _ (a : Arena) (b : Bounded a) (z : Ranking) (next : List StateSet) (d p s : ℕ) (i : Layering a z next d p s) where
  pub layering_keep : Barred a z s p → Layering a z next d p (s + 1)
  layering_keep barred = record {
    layered = i.layered;
    done = before_next a _ p s i.done (full_else a _ _ d s p i.layered (λ fresh o x l. barred fresh o x (leads_into a z.ranked (ranks_in a z) d b i.present s p x l)));
    present = i.present;
    coming = i.coming;
    eight = i.eight;
  }

  pub layering_add : (new : Ranking) (more : StateSet) (x : ℕ) → Joining a z s p x → Written a z new s p d x → new.ranked ≡ z.ranked → 0 < d → d < 65535
      → ((t : ℕ) → member more t ≡ (eqb t s || member (get_or next p nothing) t)) → Layering a new (set next p more) d p (s + 1)
  layering_add new more x j w same pos few put = record {
    layered = join a z new d s p x j.free j.fresh by w pos few i.layered;
    done = before_next a _ p s (λ t q ht h. full_join a z new d s p x j.free j.fresh by w pos few d t q (omega arith) (i.done t q ht h)) (λ y o l. omega (arith, w.rank));
    present = λ t q hq. ap (λ l. member (get_or l q nothing) t) same ∙ i.present t q hq ∙ present_same t q;
    coming = coming_more;
    eight = simp length-set i.eight;
  }
    where
      by : Lowest a (ranks_in a z) s p d x
      by = first_lowest a z.ranked (ranks_in a z) d b i.present s p x j.first

      present_same : (t q : ℕ) → ltb (ranks_in a z t q) d ≡ ltb (ranks_in a new t q) d
      present_same = written_all a z new s p d x w (λ t q n y. ltb (ranks_in a z t q) d ≡ ltb n d)
          (le-ltb _ d (omega (arith, j.fresh)) ∙ sym (le-ltb d d (omega arith))) (λ t q. refl)

      coming_more : (t q : ℕ) → q < a.phases → member (get_or (set next p more) q nothing) t ≡ ltb (ranks_in a new t q) (d + 1)
      coming_more t q hq = elim (cases_eq q p) [
        | inl e ↦ (let lt : p < length next = omega (arith, b.few_phases, hq, i.eight) in
            let here : get_or (set next p more) q nothing ≡ more = rw (e, get_or-set_same) in
            ap (λ y. member y t) here ∙ put t ∙ (elim (cases_eq t s) [
              | inl f ↦ ap (λ y. y || member (get_or next p nothing) t) (eq-eqb t s f)
                  ∙ sym (rw (e, f, w.rank) (lt-ltb d (d + 1) (omega arith)))
              | inr n ↦ ap (λ y. y || member (get_or next p nothing) t) (ne_eqb t s n) ∙ ap (λ r. member (get_or next r nothing) t) (sym e) ∙ i.coming t q hq
                  ∙ ap (λ r. ltb r (d + 1)) (sym (other t q (λ h. n h.0)))
            ]))
        | inr n ↦ (let ne : q ≢ p = n in
            let there : get_or (set next p more) q nothing ≡ get_or next q nothing = rw get_or-set_other in
            ap (λ y. member y t) there ∙ i.coming t q hq ∙ ap (λ r. ltb r (d + 1)) (sym (other t q (λ h. n h.1))))
      ]
        where
          other : (t q : ℕ) → ((t ≡ s) × (q ≡ p) → ⊥) → ranks_in a new t q ≡ ranks_in a z t q
          other t q never = elim (w.there t q) [ inl h ↦ h.0 | inr h ↦ absurd (never h) ]

module _ (a : Arena) (z : Ranking) (next : List StateSet) (d p : ℕ) (end : a.phases ≤ p) (i : Layering a z next d p 0) where
  pub layering_done : Layers a z (d + 1) (d + 1)
  layering_done = layer_done a _ _ (d + 1) d i.layered (before_all a _ p end i.done)

  -- where the sets stay, nothing was added
  pub layering_quiet : next ≡ z.ranked → Layers a z d (d + 1)
  layering_quiet same = layer_done a _ _ d d
      (record {
        grown = i.layered.grown;
        low = λ s q h. (let y = (i.layered.grown.shaped s q).inside h in
            ltb-true _ d (sym (i.present s q y.1) ∙ ap (λ l. member (get_or l q nothing) s) (sym same) ∙ i.coming s q y.1 ∙ lt-ltb _ (d + 1) (omega (arith, i.layered.low s q h))));
        full = i.layered.full;
      })
      (before_all a _ p end i.done)

-- keeping the targets alone

-- the states of a phase, before state s, whose rank is 0
abbrev pub KeptIn : Arena → Ranking → ℕ → StateSet → ℕ → Type 0
KeptIn a z p set s = Gathered (λ t b. b ≡ ltb (ranks_in a z t p) 1) set s

module _ (a : Arena) (z : Ranking) (p s : ℕ) (hs : s < a.states) (hp : p < a.phases) (i : Resetting a z p s) where
  pub resetting_keep : Target a z s p → Resetting a z p (s + 1)
  resetting_keep y = record {
    targets = i.targets;
    done = before_next a _ p s i.done (fresh_zero a s p _ _ y.zero hs hp y.goal y.safe);
    sets = i.sets;
  }

  module _ (new : Ranking) (w : Written a z new s p 65535 255) (same : new.ranked ≡ z.ranked) (no_target : Target a z s p → ⊥) where
    never : (r : Plan) → Rival a r → Kept r s p → a.goal s ≡ true → ⊥
    never r v k g = no_target (record { zero = i.targets r v s p k g; goal = g; safe = v.safe s p k })

    pub resetting_clear : Resetting a new p (s + 1)
    resetting_clear = record {
      targets = λ r v. written_all a z new s p 65535 255 w (λ t q n x. Kept r t q → a.goal t ≡ true → n ≡ 0) (λ k g. absurd (never r v k g)) (i.targets r v);
      done = before_next a _ p s
          (λ t q ht h. written_all a z new s p 65535 255 w (λ t q n x. Fresh a t q (ranks_in a z t q) (choices_in a z t q) → Fresh a t q n x)
          (λ _. fresh_none a s p never) (λ t q f. f) t q (i.done t q ht h))
          (rw (w.rank, w.choice) (fresh_none a s p never));
      sets = λ t q h. ap (λ l. member (get_or l q nothing) t) same ∙ i.sets t q h ∙ ap (λ n. ltb n 1) (sym (other t q (λ e. omega arith)));
    }
      where
        other : (t q : ℕ) → (q ≡ p → ⊥) → ranks_in a new t q ≡ ranks_in a z t q
        other t q n = elim (w.there t q) [ inl e ↦ e.0 | inr e ↦ absurd (n e.1) ]

    pub kept_clear : (set : StateSet) → KeptIn a z p set s → KeptIn a new p set (s + 1)
    kept_clear set g = gather_skip _ set s (record { below = λ u l. g.below u l ∙ ap (λ n. ltb n 1) (sym (earlier u l)); above = g.above }) (ap (λ n. ltb n 1) (sym w.rank))
      where
        earlier : (u : ℕ) → u < s → ranks_in a new u p ≡ ranks_in a z u p
        earlier u l = elim (w.there u p) [ inl e ↦ e.0 | inr e ↦ absurd (omega (arith, e.0)) ]

-- the set of a whole phase
pub resetting_turn : (a : Arena) (b : Bounded a) (z new : Ranking) (p s : ℕ) (set₁ : StateSet) → a.states ≤ s → p < a.phases → Resetting a z p s → KeptIn a z p set₁ s
    → vec_items new.entries ≡ vec_items z.entries → new.ranked ≡ set z.ranked p set₁ → Resetting a new (p + 1) 0
resetting_turn a b z new p s set₁ end hp i g e es = record {
  targets = λ r v t q k y. rank_same t q ∙ i.targets r v t q k y;
  done = before_turn a _ p s end (λ t q ht h. rw (rank_same t q, choice_same t q) (i.done t q ht h));
  sets = λ t q h. ap (λ l. member (get_or l q nothing) t) es ∙ at t q h ∙ ap (λ n. ltb n 1) (sym (rank_same t q));
}
  where
    rank_same : (t q : ℕ) → ranks_in a new t q ≡ ranks_in a z t q
    rank_same t q = ap (λ l. (held a l t q).rank) e

    choice_same : (t q : ℕ) → choices_in a new t q ≡ choices_in a z t q
    choice_same t q = ap (λ l. (held a l t q).choice) e

    whole : (t : ℕ) → member set₁ t ≡ ltb (ranks_in a z t p) 1
    whole t = elim (cases_lt t s) [
      | inl l ↦ g.below t l
      | inr l ↦ elim (held_or a t p) [
        | inl o ↦ g.above t l ∙ sym (ap (λ y. ltb y.rank 1) (o.1 (vec_items z.entries)))
        | inr h ↦ absurd (omega (arith, h.0, l, end))
      ]
    ]

    at : (t q : ℕ) → q < p + 1 → member (get_or (set z.ranked p set₁) q nothing) t ≡ ltb (ranks_in a z t q) 1
    at t q h = elim (cases_eq q p) [
      | inl e ↦ (let lt : p < length z.ranked = omega (arith, b.few_phases, z.eight) in
          let here : get_or (set z.ranked p set₁) q nothing ≡ set₁ = rw (e, get_or-set_same) in
          ap (λ y. member y t) here ∙ whole t ∙ ap (λ r. ltb (ranks_in a z t r) 1) (sym e))
      | inr n ↦ (let ne : q ≢ p = n in
          let there : get_or (set z.ranked p set₁) q nothing ≡ get_or z.ranked q nothing = rw get_or-set_other in
          ap (λ y. member y t) there ∙ i.sets t q (omega (arith, n)))
    ]

module _ (a : Arena) (z : Ranking) (p : ℕ) (end : a.phases ≤ p) (i : Resetting a z p 0) where
  pub resetting_layers : Layers a z 1 1
  resetting_layers = fresh_layers a _ _ (λ s q. elim (held_or a s q) [
    | inl o ↦ subst (λ (e : Entry). Fresh a s q e.rank e.choice) (sym (o.1 (vec_items z.entries))) (fresh_none a s q (λ r v k _. o.0 (v.inside s q k)))
    | inr h ↦ before_all a _ p end i.done s q h.0 h.1
  ])

  pub resetting_tracks : Tracks a z.ranked (ranks_in a z) 1
  resetting_tracks t q hq = i.sets t q (omega arith)

-- giving up goals

pub record Pruned (a : Arena) (old z : Ranking) (p s : ℕ) (pruned : Bool) : Type 0 where
  pub pruning : Pruning a old z p s
  pub calm : pruned ≡ false → (t q : ℕ) → ranks_in a z t q ≡ ranks_in a old t q
  pub few : zeros z ≤ zeros old
  pub fewer : pruned ≡ true → zeros z < zeros old

pub pruning_start : (a : Arena) (z : Ranking) → Layers a z 65535 65535 → Pruned a z z 0 0 false
pruning_start a z l = record {
  pruning = record { least = layered_least a _ _ l; sets = refl; rest = λ t q n. (refl, refl); onward = before_none a _ };
  calm = λ _ t q. refl;
  few = omega arith;
  fewer = λ e. absurd (false≢true e);
}

module _ (a : Arena) (b : Bounded a) (old z : Ranking) (p s : ℕ) (flag : Bool) (before : Attracted a old 65535) (i : Pruned a old z p s flag) where
  pub pruning_skip : (ranks_in a z s p ≡ 0 → ⊥) → Pruned a old z p (s + 1) flag
  pruning_skip n = record {
    pruning = record {
      least = i.pruning.least;
      sets = i.pruning.sets;
      rest = i.pruning.rest;
      onward = before_next a _ p s i.pruning.onward (λ e. absurd (n e));
    };
    calm = i.calm;
    few = i.few;
    fewer = i.fewer;
  }

  pub pruning_turn : a.states ≤ s → Pruned a old z (p + 1) 0 flag
  pruning_turn end = record {
    pruning = record {
      least = i.pruning.least;
      sets = i.pruning.sets;
      rest = i.pruning.rest;
      onward = before_turn a _ p s end i.pruning.onward;
    };
    calm = i.calm;
    few = i.few;
    fewer = i.fewer;
  }

  module _ (new : Ranking) (e : ranks_in a z s p ≡ 0) where
    -- what stood at the target before
    was : ranks_in a old s p ≡ 0
    was = elim (cases_eq (ranks_in a old s p) 0) [ inl h ↦ h | inr n ↦ absurd (n (sym (i.pruning.rest s p n).0 ∙ e)) ]

    rest_after : (n x : ℕ) → Written a z new s p n x → (t q : ℕ) → (ranks_in a old t q ≡ 0 → ⊥) → (ranks_in a new t q ≡ ranks_in a old t q) × (choices_in a new t q ≡ choices_in a old t q)
    rest_after n x w t q never = elim (w.there t q) [
      | inl h ↦ (let y = i.pruning.rest t q never in (h.0 ∙ y.0, h.1 ∙ y.1))
      | inr h ↦ absurd (never (rw (h.0, h.1) was))
    ]

    onward_after : (n x : ℕ) → Written a z new s p n x → (n ≡ 0 → Lowest a (ranks_in a old) s p 65535 x)
        → Before a p (s + 1) (λ t q. ranks_in a new t q ≡ 0 → Lowest a (ranks_in a old) t q 65535 (choices_in a new t q))
    onward_after n x w here = before_next a _ p s
        (λ t q ht h. written_all a z new s p n x w (λ t q m y. (ranks_in a z t q ≡ 0 → Lowest a (ranks_in a old) t q 65535 (choices_in a z t q)) → m ≡ 0 → Lowest a (ranks_in a old) t q 65535 y)
        (λ _. here) (λ t q f. f) t q (i.pruning.onward t q ht h))
        (rw (w.rank, w.choice) here)

    pruning_choose : new.ranked ≡ z.ranked → Chosen a z new s p → Pruned a old new p (s + 1) flag
    pruning_choose same c = record {
      pruning = record {
        least = λ r v. written_all a z new s p 0 c.own c.written (λ t q n x. Kept r t q → n ≤ r.rank t q) (λ _. omega arith) (i.pruning.least r v);
        sets = same ∙ i.pruning.sets;
        rest = rest_after 0 c.own c.written;
        onward = onward_after 0 c.own c.written (λ _. first_lowest a old.ranked (ranks_in a old) 65535 b before.tracks s p c.own (rw i.pruning.sets at c.first));
      };
      calm = λ f. written_all a z new s p 0 c.own c.written (λ t q n x. n ≡ ranks_in a old t q) (sym was) (i.calm f);
      few = omega (arith, c.zeros, i.few);
      fewer = λ f. omega (arith, c.zeros, i.fewer f);
    }

    pruning_drop : new.ranked ≡ z.ranked → Dropped a z new s p → Pruned a old new p (s + 1) true
    pruning_drop same c = record {
      pruning = record {
        least = λ r v. written_all a z new s p 65535 255 c.written (λ t q n x. Kept r t q → n ≤ r.rank t q) (λ k. absurd (stuck r v k)) (i.pruning.least r v);
        sets = same ∙ i.pruning.sets;
        rest = rest_after 65535 255 c.written;
        onward = onward_after 65535 255 c.written (λ z. absurd (omega arith));
      };
      calm = λ f. absurd (true≢false f);
      few = omega (arith, c.zeros e, i.few);
      fewer = λ _. omega (arith, c.zeros e, i.few);
    }
      where
        stuck : (r : Plan) → Rival a r → Kept r s p → ⊥
        stuck r v k =
            let lead = rival_leads a (ranks_in a old) (choices_in a old) (layered_least a _ _ before.layers) r v s p k in
            c.stuck (r.choice s p) (rw i.pruning.sets (leads_into a old.ranked (ranks_in a old) 65535 b before.tracks s p (r.choice s p) lead))

    pub pruning_renew : (r : Bool) → Renewed a z new s p r → Pruned a old new p (s + 1) (flag || r)
    pruning_renew false w = subst (Pruned a old new p (s + 1)) (sym (or-false flag)) (pruning_choose w.0 (w.1 e))
    pruning_renew true w = subst (Pruned a old new p (s + 1)) (sym (or-true flag)) (pruning_drop w.0 w.1)

-- nothing given up: the ranks are stable
pub pruning_stable : (a : Arena) (old z : Ranking) (p : ℕ) (flag : Bool) → Layers a old 65535 65535 → a.phases ≤ p → Pruned a old z p 0 flag → flag ≡ false → Stable a (ranks_in a z) (choices_in a z)
pruning_stable a old z p flag l end i f =
    subst (λ (rank : ℕ → ℕ → ℕ). Stable a rank (choices_in a z)) (fun_ext (λ t. fun_ext (λ q. sym (i.calm f t q))))
    (layered_stable a (ranks_in a old) (choices_in a old) l (choices_in a z) (λ t q n. (i.pruning.rest t q n).1) on)
  where
    on : (t q : ℕ) → ranks_in a old t q ≡ 0 → Lowest a (ranks_in a old) t q 65535 (choices_in a z t q)
    on t q e =
        let y = (l.grown.shaped t q).inside (omega (arith, e)) in
        before_all a _ p end i.pruning.onward t q y.0 y.1 (i.calm f t q ∙ e)

-- ranks of 0 are below any rival's
pub zero_least : (a : Arena) (b : Bounded a) (l : List Entry) (n : ℕ) (v : Entry) → v.rank ≡ 0 → 2048 ≤ n → l ≡ replicate n v → Least a (λ s p. (held a l s p).rank)
zero_least a b l n v e long all r w s p k =
    let i = w.inside s p k in
    let there : held a l s p ≡ v = held_in a l s p i.0 i.1 ∙ ap (λ y. get_or y (s * 8 + p) absent) all ∙ get_or-replicate n (s * 8 + p) v absent (omega (arith, long, i.0, i.1, b.few_states, b.few_phases)) in
    let zero : (held a l s p).rank ≡ 0 = ap (λ (y : Entry). y.rank) there ∙ e in
    omega (arith, zero)
