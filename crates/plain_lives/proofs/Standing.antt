-- Lists that stand for the lives of a history.
use Rattle.std.proofs.Common.{◌≡◌, true, false, List, [], ◌∷◌, ◌++◌, refl, ap, sym, ◌∙◌}
use Rattle.std.specs.Prelude.{Bool, ◌&&◌, ◌||◌, if◌then◌else◌, Option, None, Some, is_some, is_none}
use Rattle.pipe_laws.proofs.Tests.{same_stage-true}
use Rattle.pipe_types.specs.declared.numbers.StageNo.{StageNo}
use Rattle.pipe_types.specs.declared.topology.Topology.{Topology}
use Rattle.pipe_types.specs.declared.topology.StageSpec.{StageSpec}
use Rattle.pipe_types.specs.declared.message.Why.{Why}
use Rattle.pipe_types.specs.declared.step.Step.{Step}
use Rattle.pipe_types.specs.declared.step.Step.TheVariants.{Restart}
use Rattle.pipe_types.specs.Numbers.{same_stage}
use Rattle.pipe_types.specs.Stages.{spec_in}
use Rattle.pipe_model.specs.History.{History}
use Rattle.pipe_model.specs.Lives.{KillSet, reason_in, killed_by, kill_set, death_after, generation, renews, restarts, one_more, is_alive, is_live}
use Rattle.plain_lives.specs.declared.deaths.Lives.{Lives}
use Rattle.plain_lives.specs.declared.deaths.Renewal.{Renewal}
use Rattle.plain_lives.specs.Lives.{is_among, renewed_by, generation_by, live_by, live_numbers, kept, LivesStand}
use Rattle.plain_lives.proofs.Renewals.{generation_more}

abbrev or_reason : Option Why → Option Why → Option Why
or_reason (Some why) rest = Some why
or_reason None rest = rest

reason_both : (set more : KillSet) (s : StageNo) → reason_in (set ++ more) s ≡ or_reason (reason_in set s) (reason_in more s)
reason_both [] more s = refl
reason_both (d ∷ set) more s = by (same_stage d.stage s) (reason_both set more s)
  where
    by : (b : Bool) → reason_in (set ++ more) s ≡ or_reason (reason_in set s) (reason_in more s)
        → (if b then Some d.why else reason_in (set ++ more) s) ≡ or_reason (if b then Some d.why else reason_in set s) (reason_in more s)
    by true rest = refl
    by false rest = rest

abbrev unless : Bool → Option Why → Option Why
unless true r = None
unless false r = r

reason_kept : (step : Step) (set : KillSet) (s : StageNo) → reason_in (kept step set) s ≡ unless (restarts step s) (reason_in set s)
reason_kept step [] s = by (restarts step s)
  where
    by : (b : Bool) → None ≡ unless b None
    by true = refl
    by false = refl
reason_kept step (d ∷ set) s = by (restarts step d.stage) (same_stage d.stage s) (restarts step s) (reason_kept step set s) (λ same. ap (restarts step) (same_stage-true d.stage s same)) refl
  where
    by : (gone same b : Bool) → reason_in (kept step set) s ≡ unless b (reason_in set s) → (same ≡ true → gone ≡ b) → same ≡ same_stage d.stage s
        → reason_in (if gone then kept step set else d ∷ kept step set) s ≡ unless b (if same then Some d.why else reason_in set s)
    by true true true rest alike is = rest
    by true true false rest alike is = absurd (cc (alike refl))
    by true false b rest alike is = rest
    by false same b rest alike is = by_kept same b rest alike is
      where
        by_kept : (same b : Bool) → reason_in (kept step set) s ≡ unless b (reason_in set s) → (same ≡ true → false ≡ b) → same ≡ same_stage d.stage s
            → (if same_stage d.stage s then Some d.why else reason_in (kept step set) s) ≡ unless b (if same then Some d.why else reason_in set s)
        by_kept true true rest alike is = absurd (cc (alike refl))
        by_kept true false rest alike is = ap (λ b. if b then Some d.why else reason_in (kept step set) s) (sym is)
        by_kept false b rest alike is = ap (λ b. if b then Some d.why else reason_in (kept step set) s) (sym is) ∙ rest

-- the new deaths before the old ones that are kept
pub death_next : (step : Step) (killed old : KillSet) (s : StageNo) → reason_in (killed ++ kept step old) s ≡ death_after (reason_in killed s) (restarts step s) (reason_in old s)
death_next step killed old s =
    reason_both killed (kept step old) s ∙ (ap (or_reason (reason_in killed s)) (reason_kept step old s) ∙ by (reason_in killed s) (restarts step s))
  where
    by : (r : Option Why) (b : Bool) → or_reason r (unless b (reason_in old s)) ≡ death_after r b (reason_in old s)
    by (Some why) b = refl
    by None true = refl
    by None false = refl

among_next : (here : Bool) (s t : StageNo) (stages : List StageNo) → is_among (if here then s ∷ stages else stages) t ≡ (if here then (same_stage s t || is_among stages t) else is_among stages t)
among_next true s t stages = refl
among_next false s t stages = refl

found_next : (same : Bool) (spec : StageSpec) (rest : Option StageSpec) → is_some (if same then Some spec else rest) ≡ (if same then true else is_some rest)
found_next true spec rest = refl
found_next false spec rest = refl

live_next : (here same none among found : Bool) → (same ≡ true → here ≡ none) → among ≡ (found && none) → (if here then (same || among) else among) ≡ ((if same then true else found) && none)
live_next here true none among found alike rest = by here (alike refl)
  where
    by : (h : Bool) → h ≡ none → (if h then true else among) ≡ none
    by true is = is
    by false is = rest ∙ ap (λ b. found && b) (sym is) ∙ none_of found ∙ is
      where
        none_of : (b : Bool) → (b && false) ≡ false
        none_of true = refl
        none_of false = refl
live_next here false none among found alike rest = by here ∙ rest
  where
    by : (h : Bool) → (if h then among else among) ≡ among
    by true = refl
    by false = refl

-- the list of live stages has a stage exactly where it is live
pub among_live : (deaths : KillSet) (specs : List StageSpec) (t : StageNo) → is_among (live_numbers deaths specs) t ≡ is_some (spec_in specs t) && is_none (reason_in deaths t)
among_live deaths [] t = refl
among_live deaths (spec ∷ specs) t =
    among_next (is_none (reason_in deaths spec.no)) spec.no t (live_numbers deaths specs)
    ∙ live_next (is_none (reason_in deaths spec.no)) (same_stage spec.no t) (is_none (reason_in deaths t)) (is_among (live_numbers deaths specs) t) (is_some (spec_in specs t))
    (λ same. ap (λ s. is_none (reason_in deaths s)) (same_stage-true spec.no t same)) (among_live deaths specs t)
    ∙ ap (λ b. b && is_none (reason_in deaths t)) (sym (found_next (same_stage spec.no t) spec (spec_in specs t)))

renewed_is : (topology : Topology) (deaths : KillSet) (r : Renewal) (s c p : StageNo) → r.restarted ≡ s → r.live.items ≡ live_numbers deaths topology.stages
    → renewed_by r c p ≡ renews (λ t. is_alive topology (reason_in deaths t) t) (Restart s) c p
renewed_is topology deaths r s c p of live =
    let among : (t : StageNo) → is_among r.live.items t ≡ is_alive topology (reason_in deaths t) t = λ t. ap (λ ts. is_among ts t) live ∙ among_live deaths topology.stages t in
    ap (λ x. (same_stage x c && is_among r.live.items p) || (same_stage x p && is_among r.live.items c)) of
    ∙ ap (λ b. (same_stage s c && b) || (same_stage s p && is_among r.live.items c)) (among p)
    ∙ ap (λ b. (same_stage s c && is_alive topology (reason_in deaths p) p) || (same_stage s p && b)) (among c)

-- one more renewal
pub renewed_next : (topology : Topology) (deaths : KillSet) (renewals : List Renewal) (r : Renewal) (s : StageNo) → r.restarted ≡ s → r.live.items ≡ live_numbers deaths topology.stages → (c p : StageNo)
    → generation_by (renewals ++ r ∷ []) c p ≡ one_more (renews (λ t. is_alive topology (reason_in deaths t) t) (Restart s) c p) (generation_by renewals c p)
renewed_next topology deaths renewals r s of live c p =
    generation_more renewals r c p ∙ ap (λ b. one_more b (generation_by renewals c p)) (renewed_is topology deaths r s c p of live)

live_same : (topology : Topology) (before : History) (lives : Lives) → LivesStand topology before lives → live_by topology lives ≡ is_live topology before
live_same topology before lives stand = λ i. λ t. is_alive topology (stand.deaths t i) t

generation_same : (topology : Topology) (before : History) (lives : Lives) → LivesStand topology before lives → generation_by lives.renewals.items ≡ generation topology before
generation_same topology before lives stand = λ i. λ c p. stand.generations c p i

-- what a step kills after the history
pub killed_same : (topology : Topology) (before : History) (lives : Lives) (step : Step) → LivesStand topology before lives
    → killed_by topology (live_by topology lives) (generation_by lives.renewals.items) step ≡ kill_set topology before step
killed_same topology before lives step stand = λ i. killed_by topology (live_same topology before lives stand i) (generation_same topology before lives stand i) step

-- the lives after one more step
pub stand_next : (topology : Topology) (before : History) (lives after : Lives) (step : Step) (killed : KillSet)
    → killed ≡ killed_by topology (live_by topology lives) (generation_by lives.renewals.items) step
    → after.deaths.items ≡ killed ++ kept step lives.deaths.items
    → ((c p : StageNo) → generation_by after.renewals.items c p ≡ one_more (renews (live_by topology lives) step c p) (generation_by lives.renewals.items c p))
    → LivesStand topology before lives → LivesStand topology (step ∷ before) after
stand_next topology before lives after step killed kills deaths renewals stand =
    record {
      deaths = λ s.
          ap (λ set. reason_in set s) deaths
          ∙ death_next step killed lives.deaths.items s
          ∙ ap (λ set. death_after (reason_in set s) (restarts step s) (reason_in lives.deaths.items s)) (kills ∙ killed_same topology before lives step stand)
          ∙ ap (death_after (reason_in (kill_set topology before step) s) (restarts step s)) (stand.deaths s);
      generations = λ c p.
          renewals c p
          ∙ ap (λ live. one_more (renews live step c p) (generation_by lives.renewals.items c p)) (live_same topology before lives stand)
          ∙ ap (one_more (renews (is_live topology before) step c p)) (stand.generations c p);
    }
