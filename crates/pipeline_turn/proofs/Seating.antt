-- Making, splitting, joining and ending keep the rule.
use Rattle.std.proofs.Common.{◌≡◌, ℕ, ◌+◌, ◌-◌, ◌<◌, ◌≤◌, List, [], ◌∷◌, ◌++◌, set, length, refl, sym, ap, ◌∙◌, subst, arith, Option, Some, None, false, Contains}
use Rattle.std.proofs.lemmas.Option.{none-some}
use Rattle.std.proofs.lemmas.Bool.{false≢true}
use mathlib.Core.Logic.{dite}
use mathlib.Core.Option.{some}
use native.Mathlib.Decide.{ℕ_discrete}
use lib.ListN.{get_elem?}
use Rattle.atomic_table.specs.Table.{keeps, Allows, Splits, Joins, Final, Seen, opening}
use Rattle.atomic_table.proofs.Lists.{set_else}
use Rattle.pipe_types.specs.declared.numbers.Post.{Post}
use Rattle.pipe_model.specs.History.{History}
use Rattle.pipe_model.specs.Begins.{BeginsWith}
use Rattle.pipeline_turn.specs.declared.view.View.{View}
use Rattle.pipeline_turn.specs.declared.view.Handed.{Handed}
use Rattle.pipeline_turn.specs.Rule.{Place, home, lent, homes_of, current, Stems, total, opening_view}
use Rattle.pipeline_turn.specs.Steps.{Knows, At, parting, parted, hearing, settling, spent_view, settled}
use Rattle.pipeline_turn.proofs.Journals.{begins_empty, longer_begins, begins_longer}
use Rattle.pipeline_turn.proofs.Views.{only, at_first, first_index, total_at, total_two}
use Rattle.pipeline_turn.proofs.Handing.{stems_there}
use Rattle.pipeline_turn.proofs.Ruled as rule

module _ {V O : Type 0} (steps : V → History) (stems : O → V → Type 0) (away : V → List Post) where
  abbrev F : Place V → O → ℕ → View O → Type 0
  F = rule.F steps stems away

  abbrev R : ℕ → Place V → O → List (View O) → Type 0
  R = rule.R steps stems away

  settle_done : (n id : ℕ) (me : Knows V O) (at : At V) → me.0.holds ≡ false → me.0.job ≡ None → (p : Place V) (counts : List ℕ) (o : O) (vs : List (View O)) → Stems stems o p → R n p o vs → get_elem? vs id ≡ some me.0
      → rule.Done steps stems away n id me 0 (λ k. k) (settled at me) (rule.At steps stems away p counts vs)
  settle_done n id me at free idle p counts o vs from r here =
      let v : View O = me.0 in let w : View O = settling v in let old = r.each id v here in let b = longer_begins (current steps p) v.seen v.told old.saw old.heard in (
        w,
        keeps,
        tt,
        rule.ruled steps stems away n counts p o (set vs id w) from (rule.one_still steps stems away n n p o vs id v w r here free refl refl
            (record {
              from = old.from;
              spent = old.spent;
              saw = begins_longer (current steps p) v.seen v.told old.saw old.heard;
              heard = begins_empty (current steps p);
              holds = rule.free_holds steps stems away p id w free;
              undone = λ post e. absurd (none-some post (sym idle ∙ e));
              job_away = old.job_away;
            })),
        (refl, b.0, b.1),
      )

  pub settles_keep : (n slots id : ℕ) (me : Knows V O) (at : At V) → me.0.holds ≡ false → me.0.job ≡ None → Allows (rule.Rule steps stems away n) slots id me 0 (λ k. k) (settled at me)
  settles_keep n slots id me at free idle = rule.placed steps stems away n slots id me 0 (λ k. k) (settled at me) (settle_done n id me at free idle)

  pub splits_keep : (n id : ℕ) (v : View O) → v.holds ≡ false → v.job ≡ None → 2 ≤ v.parts → Splits (rule.Rule steps stems away n) id v (parting v) (parted v)
  splits_keep n id v free idle two s r here =
      let p = r.place in let o = r.origin in let vs = s.views in let q = r.seated in let old = q.each id v here in let w : View O = parting v in
      let first : R (n - 1) p o (set vs id w) = rule.one_still steps stems away n (n - 1) p o vs id v w q here free refl (let t = total_at vs id v here in let e : total vs ≡ n = q.sum in omega arith)
      (record { from = λ e. old.from (omega arith); spent = λ e. absurd (omega arith); saw = old.saw; heard = old.heard; holds = rule.free_holds steps stems away p id w free; undone = λ post e. absurd (none-some post (sym idle ∙ e)); job_away = old.job_away }) in
      let both = rule.snoc steps stems away (n - 1) p o (set vs id w) (parted v) first refl
      (λ j. record { from = λ e. old.from (omega arith); spent = λ e. (refl, refl); saw = old.saw; heard = begins_empty (current steps p); holds = rule.free_holds steps stems away p j (parted v) refl; undone = λ post e. absurd (none-some post e); job_away = λ post e. absurd (none-some post e) }) in
      record {
        place = p;
        origin = o;
        counts = r.counts;
        words = r.words;
        homes = r.homes;
        stemmed = r.stemmed;
        seated = subst (λ (k : ℕ). R k p o (set vs id w ++ parted v ∷ [])) (let t = total_at vs id v here in let e : total vs ≡ n = q.sum in omega arith) both;
      }

  pub joins_keep : (n id other : ℕ) (v w : View O) → v.holds ≡ false → v.job ≡ None → w.holds ≡ false → w.job ≡ None → 0 < v.parts → 0 < w.parts → Joins (rule.Rule steps stems away n) id v other w (hearing v w) spent_view
  joins_keep n id other v w free idle free' idle' part part' s r here apart there =
      let p = r.place in let o = r.origin in let vs = s.views in let q = r.seated in let old = q.each id v here in let u : View O = hearing v w in
      let was : get_elem? vs other ≡ some w = sym (set_else vs id other u apart) ∙ there in let old' = q.each other w was in
      let first : R (n + w.parts) p o (set vs id u) = rule.one_still steps stems away n (n + w.parts) p o vs id v u q here free refl (omega arith)
      (record { from = λ e. old.from part; spent = λ e. absurd (omega arith); saw = old.saw; heard = old'.saw; holds = rule.free_holds steps stems away p id u free; undone = λ post e. absurd (none-some post (sym idle ∙ e)); job_away = old.job_away }) in
      record {
        place = p;
        origin = o;
        counts = r.counts;
        words = r.words;
        homes = r.homes;
        stemmed = r.stemmed;
        seated = rule.one_still steps stems away (n + w.parts) n p o (set vs id u) other w spent_view first there free' (sym idle') (omega arith)
            (record { from = λ e. absurd (omega arith); spent = λ e. (refl, refl); saw = begins_empty (current steps p); heard = begins_empty (current steps p); holds = rule.free_holds steps stems away p other spent_view refl; undone = λ post e. absurd (none-some post e); job_away = λ post e. absurd (none-some post e) });
      }

  none_in : (posts : List Post) (post : Post) → posts ≡ [] → Contains posts post → ⊥
  none_in posts post e c = let l : length posts ≡ 0 = ap length e in let k = c.1 in omega arith

  all_home : (posts : List Post) → ((post : Post) → Contains posts post → ⊥) → posts ≡ []
  all_home [] never = refl
  all_home (x ∷ posts) never = absurd (never x (0, omega arith, refl))

  -- a view other than that of all parts has none, and so no job
  no_job : (n id j : ℕ) (v u : View O) (p : Place V) (o : O) (vs : List (View O)) (post : Post) → R n p o vs → get_elem? vs id ≡ some v → v.job ≡ None → v.parts ≡ n → get_elem? vs j ≡ some u → u.job ≡ Some post → ⊥
  no_job n id j v u p o vs post r here idle all there job = dite (ℕ_discrete j id)
      (λ e. none-some post (sym idle ∙ (ap (λ (z : View O). z.job) (only vs id v u here (ap (get_elem? vs) (sym e) ∙ there)) ∙ job)))
      (λ no. let two = total_two vs j id u v no there here in let e : total vs ≡ n = r.sum in none-some post (sym ((r.each j u there).spent (omega arith)).1 ∙ job))

  -- the one seat with parts holds nothing and has no job, so the value is at home and nothing is away from it
  at_end : (n id : ℕ) (v : View O) (p : Place V) (o : O) (vs : List (View O)) → Stems stems o p → R n p o vs → get_elem? vs id ≡ some v → v.holds ≡ false → v.job ≡ None → 0 < v.parts → v.parts ≡ n
      → (h : Handed V) × (p ≡ home h) × ((origin : O) → v.origin ≡ Some origin → stems origin h.value) × BeginsWith (steps h.value) v.seen × (away h.value ≡ [])
  at_end n id v (home h) o vs from r here free idle part all = let old = r.each id v here in (
    h,
    refl,
    stems_there steps stems away v o h.value (old.from part) from,
    old.saw,
    all_home (away h.value) (λ post c. let t = r.owned post c in no_job n id t.0 v t.1 (home h) o vs post r here idle all t.2 t.3),
  )
  at_end n id v (lent i taken posts) o vs from r here free idle part all =
      let t = r.holder in let u : View O = t.0 in absurd (dite (ℕ_discrete i id)
      (λ e. false≢true (sym free ∙ (ap (λ (z : View O). z.holds) (only vs id v u here (ap (get_elem? vs) (sym e) ∙ t.1)) ∙ t.2)))
      (λ no. let two = total_two vs i id u v no t.1 here in let e : total vs ≡ n = r.sum in false≢true (sym ((r.each i u t.1).spent (omega arith)).0 ∙ t.2)))

  pub opens : (n : ℕ) (o : O) (h : Handed V) → stems o h.value → away h.value ≡ [] → rule.Rule steps stems away n (opening (0 ∷ 0 ∷ 0 ∷ []) (Some h ∷ []) (opening_view n o))
  opens n o h from none = rule.ruled steps stems away n (0 ∷ 0 ∷ []) (home h) o (opening_view n o ∷ []) from (record {
    holder = tt;
    sum = omega arith;
    each = λ j u e. at_first (λ (k : ℕ) (z : View O). F (home h) o k z) (opening_view n o)
        (record { from = λ _. refl; spent = λ _. (refl, refl); saw = begins_empty (steps h.value); heard = begins_empty (steps h.value); holds = refl; undone = λ post e'. absurd (none-some post e'); job_away = λ post e'. absurd (none-some post e') }) j u e;
    apart = λ i j a b post no ea eb ja jb. no (first_index (opening_view n o) i a ea ∙ sym (first_index (opening_view n o) j b eb));
    owned = λ post c. absurd (none_in (away h.value) post none c);
  })

  pub ends : (n id : ℕ) (v : View O) (ws : List ℕ) (xs : List (Option (Handed V))) → Final (Seen (rule.Rule steps stems away n) id v) ws xs → v.holds ≡ false → v.job ≡ None → 0 < v.parts → v.parts ≡ n
      → (h : Handed V) × (get_elem? xs 0 ≡ some (Some h)) × ((origin : O) → v.origin ≡ Some origin → stems origin h.value) × BeginsWith (steps h.value) v.seen × (away h.value ≡ [])
  ends n id v ws xs f free idle part all =
      let s = f.0 in let r = f.1.0 in let t = at_end n id v r.place r.origin s.views r.stemmed r.seated f.1.1 free idle part all in
      (t.0, f.4 0 (Some t.0) (ap (λ z. get_elem? z 0) r.homes ∙ ap (λ (z : Place V). get_elem? (homes_of z) 0) t.1), t.2, t.3, t.4)
