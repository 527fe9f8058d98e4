-- Laws of a source with a pace while the journal goes on.
use Rattle.std.proofs.Common.{◌≡◌, ◌≢◌, ℕ, ◌+◌, ◌/◌, ◌<◌, ◌≤◌, ◌==◌, max, Bool, true, false, if◌then◌else◌, List, [], length, arith, refl, ap, sym, subst, ◌∙◌, inl, inr, ◌⊎◌}
use Rattle.std.specs.Prelude.{Option, Some, None, IfSome}
use Rattle.std.proofs.lemmas.Bool.{eq-eqb, eqb-true, ne_eqb, leb-false}
use Rattle.std.proofs.lemmas.Nat.{le-div}
use Rattle.std.proofs.lemmas.List.Elements.{All-nil}
use Rattle.pipe_types.specs.declared.numbers.StageNo.{StageNo}
use Rattle.pipe_types.specs.declared.step.SourceHow.{SourceHow}
use Rattle.pipe_types.specs.declared.step.SourceHow.TheVariants as how
use Rattle.pipe_model.specs.History.{History}
use Rattle.pipe_edges.specs.Paces.{IsHeldUp, KeepsPace as PaceKept, Pace, PaceSeen, given_since, told_at, told_by}
use Rattle.pipe_edges.specs.Pacing.{Gives}
use Rattle.pipe_edges.specs.declared.reading.LineEnd.{LineEnd}
use Rattle.pipe_edges.specs.declared.reading.LineEnd.TheVariants as end
use Rattle.stage_job.specs.Chunks.{RoseBy}
use Rattle.stage_bodies.specs.Jobs.{CutKeepsPace, FetchIsPaced, FetchGives, FetchKeepsPace, Fetches, IsFetched}
use Rattle.stage_bodies.specs.Moments.{told_lines}
use Rattle.stage_bodies.specs.Seen.{SourceSeen, LineSeen}
use Rattle.stage_bodies.specs.declared.job.Outcome.{Outcome as Came}
use Rattle.stage_bodies.specs.declared.job.Outcome.TheVariants as came
use Rattle.rate_laws.specs.Rates.{came_by, fetched_at, is_used_up, own_quiets}
use Rattle.pace_laws.specs.Pacing.{IsPace, IsTold, KeepsPaceBy, PaceGoes, PaceRests, PaceSame, PaceStays, at_start}
use Rattle.pace_laws.proofs.Rises.{rise_none, rise_one, rise_stays}

-- ---- intervals

same_interval : (interval m g : ℕ) → given_since interval m m g ≡ g
same_interval interval m g = by (m / interval == m / interval) (eq-eqb (m / interval) (m / interval) refl)
  where
    by : (b : Bool) → b ≡ true → (if b then g else 0) ≡ g
    by true e = refl
    by false e = cc

later_interval : (interval a b : ℕ) → 1 ≤ interval → a ≤ b → a / interval ≤ b / interval
later_interval interval a b some le = le-div (a / interval) b interval (omega (arith, some)) (omega (arith, some, le))

zero_or_same : (b : Bool) → ◌≡◌ {A = ℕ} (if b then 0 else 0) 0
zero_or_same true = refl
zero_or_same false = refl

low_or_same : (a b : ℕ) → a ≤ b → (a < b) ⊎ (a ≡ b)
low_or_same a b h = Prim.grind arith

-- a later fetch begins an interval in which nothing came yet, or goes on with this one
given_later : (interval m f f' g came came' : ℕ) → 1 ≤ interval → m ≤ f → f ≤ f' → given_since interval m f g ≡ came → (f / interval < f' / interval → came' ≡ 0) → (f / interval ≡ f' / interval → came' ≡ came)
    → given_since interval m f' g ≡ came'
given_later interval m f f' g came came' some past grows is none same = by (low_or_same (f / interval) (f' / interval) (later_interval interval f f' some grows))
  where
    by : (f / interval < f' / interval) ⊎ (f / interval ≡ f' / interval) → given_since interval m f' g ≡ came'
    by (inl new) =
        let low = later_interval interval m f some past in
        let differs : (m / interval == f' / interval) ≡ false = ne_eqb (m / interval) (f' / interval) (λ e. omega (arith, e, low, new)) in
        ap (λ b. if b then g else 0) differs ∙ sym (none new)
    by (inr e) = ap (λ x. if m / interval == x then g else 0) (sym e) ∙ is ∙ sym (same e)

-- ---- the start

pub starts : (s : StageNo) (pace : Option Pace) (a : LineSeen) → a.source.paced ≡ at_start pace → IsPace pace → a.waiting ≡ [] → KeepsPaceBy pace [] s true a.source a
starts s None a paced some empty = refl
starts s (Some pace) a paced some empty = record {
  same_pace = ap (λ p. p.pace) paced;
  some = some;
  past = let m = ap (λ p. p.moment) paced in omega (arith, m);
  low = let g = ap (λ p. p.given) paced in omega (arith, g);
  within = λ i. omega arith;
  own = rise_none a.source.paced.own;
  in_pace = λ none short. record {
    given = rw paced (zero_or_same (0 / pace.interval == 0 / pace.interval));
    in_step = rw (paced, empty) (record { unbroken = All-nil (λ b. b ≢ 10); part = refl });
  };
}

-- ---- a step that brings nothing

pub stays : (p : Option Pace) (before after : History) (s : StageNo) (whole : Bool) (opened : SourceSeen) (now : LineSeen) → PaceStays before after s → KeepsPaceBy p before s whole opened now → KeepsPaceBy p after s whole opened now
stays None before after s whole opened now st k = k
stays (Some pace) before after s whole opened now st k = record {
  same_pace = k.same_pace;
  some = k.some;
  past = let past = k.past in let grows = st.grows in omega (arith, past, grows);
  low = k.low;
  within = λ i. let low = k.within i in let same = st.came pace.interval i in omega (arith, low, same);
  own = rw (st.own pace.share pace.interval) k.own;
  in_pace = λ none short. let old = k.in_pace none short in record {
    given =
        given_later pace.interval now.source.paced.moment (fetched_at before s) (fetched_at after s) now.source.paced.given (came_by s pace.interval (fetched_at before s / pace.interval) before) (came_by s pace.interval (fetched_at after s / pace.interval) after)
        k.some k.past st.grows old.given
        (λ new. st.came pace.interval (fetched_at after s / pace.interval) ∙ st.later pace.interval (fetched_at after s / pace.interval) (let some = k.some in omega (arith, some)) new)
        (λ e. st.came pace.interval (fetched_at after s / pace.interval) ∙ ap (λ i. came_by s pace.interval i before) (sym e));
    in_step = old.in_step;
  };
}

-- a step that says nothing of the producer
pub same_pace : (p : Option Pace) (before after : History) (s : StageNo) (whole : Bool) (opened : SourceSeen) (now : LineSeen) → PaceSame before after s → KeepsPaceBy p before s whole opened now → KeepsPaceBy p after s whole opened now
same_pace None before after s whole opened now same k = k
same_pace (Some pace) before after s whole opened now same k = record {
  same_pace = k.same_pace;
  some = k.some;
  past = let past = k.past in let fetch = same.same_fetch in omega (arith, past, fetch);
  low = k.low;
  within = λ i. let low = k.within i in let came = same.came pace.interval i in omega (arith, low, came);
  own = rw (same.own pace.share pace.interval) k.own;
  in_pace = λ none short. let old = k.in_pace none short in record {
    given =
        ap (λ f. given_since pace.interval now.source.paced.moment f now.source.paced.given) same.same_fetch
        ∙ old.given
        ∙ sym (same.came pace.interval (fetched_at before s / pace.interval))
        ∙ ap (λ f. came_by s pace.interval (f / pace.interval) after) (sym same.same_fetch);
    in_step = old.in_step;
  };
}

-- ---- the telling

told_is : (pace : Pace) (f : ℕ) (p : PaceSeen) → p.pace ≡ Some pace → p.moment ≤ f → told_at f p ≡ record p { moment = f; given = given_since pace.interval p.moment f p.given }
told_is pace f p is past =
    let last : max p.moment f ≡ f = omega (arith, past) in
    ap (λ o. told_by o f p) is ∙ ap (λ m. record p { moment = m; given = given_since pace.interval p.moment m p.given }) last

pub tells : (p : Option Pace) (before : History) (s : StageNo) (opened : SourceSeen) (now : LineSeen) → p ≡ opened.paced.pace → KeepsPaceBy p before s true opened now → KeepsPaceBy p before s true opened (told_lines (fetched_at before s) now)
tells None before s opened now is k =
    let none : now.source.paced.pace ≡ None = ap (λ x. x.pace) k ∙ sym is in
    ap (λ o. told_by o (fetched_at before s) now.source.paced) none ∙ k
tells (Some pace) before s opened now is k =
    let f = fetched_at before s in
    let p = now.source.paced in
    let told = told_is pace f p k.same_pace k.past in
    record {
      same_pace = ap (λ x. x.pace) told ∙ k.same_pace;
      some = k.some;
      past = let m = ap (λ x. x.moment) told in omega (arith, m);
      low = let g = ap (λ x. x.given) told in let less = since_low pace.interval p.moment f p.given in let low = k.low in omega (arith, g, less, low);
      within = k.within;
      own = subst (λ n. RoseBy (own_quiets pace.share pace.interval before s) opened.paced.own n) (sym (ap (λ x. x.own) told)) k.own;
      in_pace = λ none short. let old = k.in_pace none short in record {
        given = ap (λ x. given_since pace.interval x.moment f x.given) told ∙ same_interval pace.interval f (given_since pace.interval p.moment f p.given) ∙ old.given;
        in_step = record { unbroken = old.in_step.unbroken; part = ap (λ x. x.part) told ∙ old.in_step.part };
      };
    }
  where
    since_low : (interval m f g : ℕ) → given_since interval m f g ≤ g
    since_low interval m f g = by (m / interval == f / interval)
      where
        by : (b : Bool) → (if b then g else 0) ≤ g
        by true = omega arith
        by false = omega arith

-- once told it was told
pub told_again : (f : ℕ) (p : PaceSeen) → told_at f p ≡ told_at f (told_at f p)
told_again f p = by p.pace refl ∙ ap (λ o. told_by o f (told_at f p)) (sym (pace_told p.pace))
  where
    pace_told : (o : Option Pace) → (told_by o f p).pace ≡ p.pace
    pace_told None = refl
    pace_told (Some pace) = refl

    by : (o : Option Pace) → p.pace ≡ o → told_by o f p ≡ told_by o f (told_by o f p)
    by None is = refl
    by (Some pace) is =
        let last : max (max p.moment f) f ≡ max p.moment f = omega arith in
        sym (ap (λ m. record p { moment = m; given = given_since pace.interval (max p.moment f) m (given_since pace.interval p.moment (max p.moment f) p.given) }) last
        ∙ ap (λ g. record p { moment = max p.moment f; given = g }) (same_interval pace.interval (max p.moment f) (given_since pace.interval p.moment (max p.moment f) p.given)))

-- an answer that is not in the journal leaves what does not need it
pub part : (p : Option Pace) (before : History) (s : StageNo) (opened : SourceSeen) (now : LineSeen) → KeepsPaceBy p before s true opened now → KeepsPaceBy p before s false opened now
part None before s opened now k = k
part (Some pace) before s opened now k = record {
  same_pace = k.same_pace;
  some = k.some;
  past = k.past;
  low = k.low;
  within = k.within;
  own = k.own;
  in_pace = λ w. let x : false ≡ true = w in cc;
}

-- ---- fetches

moment_told : (pace : Pace) (f : ℕ) (p : PaceSeen) → p.pace ≡ Some pace → p.moment ≤ f → p ≡ told_at f p → p.moment ≡ f
moment_told pace f p is past told = ap (λ x. x.moment) (told ∙ told_is pace f p is past)

-- an answer that is not in the journal
pub loses : (p : Option Pace) (before : History) (s : StageNo) (opened : SourceSeen) (b c : LineSeen) → p ≡ opened.paced.pace → CutKeepsPace b.source.paced.pace b c
    → KeepsPaceBy p before s true opened b → KeepsPaceBy p before s false opened c
loses None before s opened b c is cut k =
    let none : b.source.paced.pace ≡ None = ap (λ x. x.pace) k ∙ sym is in
    let same : c.source.paced ≡ b.source.paced = subst (λ o. CutKeepsPace o b c) none cut in
    same ∙ k
loses (Some pace) before s opened b c is cut k =
    let kept : PaceKept pace b.source.paced c.source.paced = subst (λ o. CutKeepsPace o b c) k.same_pace cut in
    record {
      same_pace = kept.same_pace ∙ k.same_pace;
      some = k.some;
      past = let same = kept.same_moment in let past = k.past in omega (arith, same, past);
      low = kept.within k.low;
      within = k.within;
      own = rise_stays (own_quiets pace.share pace.interval before s) opened.paced.own b.source.paced.own c.source.paced.own k.own kept.own_stays;
      in_pace = λ w. let x : false ≡ true = w in cc;
    }

-- a fetch that came to an answer keeps the pace too
pub cut_of : (p : Option Pace) (o : Came) (b c : LineSeen) → FetchIsPaced p o b c → CutKeepsPace p b c
cut_of None o b c k = k
cut_of (Some pace) o b c k = k.kept

-- a line that was too long before is so still
not_long : (old new : Option LineEnd) → IfSome old (λ e. new ≡ Some e) → ¬ (new ≡ Some end.TooLong) → ¬ (old ≡ Some end.TooLong)
not_long old new stays short is = short (rw is at stays)

-- the records of the fetch are those that came
pub accepts : (p : Option Pace) (before after : History) (s : StageNo) (most : ℕ) (records : List (List ℕ)) (opened : SourceSeen) (b c : LineSeen) → p ≡ opened.paced.pace → PaceGoes before after s records
    → IsTold before s b → Fetches most (came.Records records) b c → KeepsPaceBy p before s true opened b → KeepsPaceBy p after s true opened c
accepts None before after s most records opened b c is goes told fetched k =
    let none : b.source.paced.pace ≡ None = ap (λ x. x.pace) k ∙ sym is in
    let same : c.source.paced ≡ b.source.paced = subst (λ o. FetchIsPaced o (came.Records records) b c) none fetched.paced in
    same ∙ k
accepts (Some pace) before after s most records opened b c is goes told fetched k =
    let f = fetched_at before s in
    let here = f / pace.interval in
    let paced : FetchKeepsPace pace (came.Records records) b c = subst (λ o. FetchIsPaced o (came.Records records) b c) k.same_pace fetched.paced in
    let short = not_long b.end c.end fetched.end_stays fetched.answer.5 in
    let old = k.in_pace refl short in
    let moment = moment_told pace f b.source.paced k.same_pace k.past told in
    let given : b.source.paced.given ≡ came_by s pace.interval here before = sym (same_interval pace.interval f b.source.paced.given) ∙ ap (λ m. given_since pace.interval m f b.source.paced.given) (sym moment) ∙ old.given in
    let gives = paced.counted old.in_step in
    let low = paced.kept.within k.low in
    let total : c.source.paced.given ≡ came_by s pace.interval here before + length records = gives.count ∙ ap (λ n. n + length records) given in
    let moment' : c.source.paced.moment ≡ f = paced.kept.same_moment ∙ moment in
    record {
      same_pace = paced.kept.same_pace ∙ k.same_pace;
      some = k.some;
      past = let same = goes.same_fetch in omega (arith, moment', same);
      low = low;
      within = λ i. subst (λ n. n ≤ pace.share) (sym (goes.came pace.interval i)) (each i here (came_by s pace.interval i before) (length records) pace.share (k.within i) (λ e. bound i e total low));
      own = subst (λ n. RoseBy n opened.paced.own c.source.paced.own) (sym (goes.own pace.share pace.interval))
          (rise_stays (own_quiets pace.share pace.interval before s) opened.paced.own b.source.paced.own c.source.paced.own k.own paced.kept.own_stays);
      in_pace = λ none not. record {
        given =
            ap (λ x. given_since pace.interval c.source.paced.moment x c.source.paced.given) goes.same_fetch
            ∙ ap (λ m. given_since pace.interval m f c.source.paced.given) moment'
            ∙ same_interval pace.interval f c.source.paced.given
            ∙ total
            ∙ sym (here_more here (came_by s pace.interval here before) (length records))
            ∙ sym (goes.came pace.interval here)
            ∙ ap (λ x. came_by s pace.interval (x / pace.interval) after) (sym goes.same_fetch);
        in_step = gives.in_step;
      };
    }
  where
    each : (i here old more share : ℕ) → old ≤ share → (here ≡ i → old + more ≤ share) → (if here == i then old + more else old) ≤ share
    each i here old more share low bound = by (here == i) refl
      where
        by : (t : Bool) → (here == i) ≡ t → (if t then old + more else old) ≤ share
        by true e = bound (eqb-true here i e)
        by false e = low

    bound : (i : ℕ) → fetched_at before s / pace.interval ≡ i → c.source.paced.given ≡ came_by s pace.interval (fetched_at before s / pace.interval) before + length records → c.source.paced.given ≤ pace.share
        → came_by s pace.interval i before + length records ≤ pace.share
    bound i e total low = subst (λ j. came_by s pace.interval j before + length records ≤ pace.share) e (omega (arith, total, low))

    here_more : (here old more : ℕ) → (if here == here then old + more else old) ≡ old + more
    here_more here old more = ap (λ t. if t then old + more else old) (eq-eqb here here refl)

-- nothing was ready: of its own, or the share is used up
pub rests : (p : Option Pace) (before after : History) (s : StageNo) (most : ℕ) (opened : SourceSeen) (b c : LineSeen) → p ≡ opened.paced.pace → PaceRests before after s
    → IsTold before s b → Fetches most came.NotYet b c → KeepsPaceBy p before s true opened b → KeepsPaceBy p after s true opened c
rests None before after s most opened b c is goes told fetched k =
    let none : b.source.paced.pace ≡ None = ap (λ x. x.pace) k ∙ sym is in
    let same : c.source.paced ≡ b.source.paced = subst (λ o. FetchIsPaced o came.NotYet b c) none fetched.paced in
    same ∙ k
rests (Some pace) before after s most opened b c is goes told fetched k =
    let f = fetched_at before s in
    let here = f / pace.interval in
    let paced : FetchKeepsPace pace came.NotYet b c = subst (λ o. FetchIsPaced o came.NotYet b c) k.same_pace fetched.paced in
    let open_still : ¬ (c.end ≡ Some end.TooLong) = λ e. no_end c.end fetched.answer.1 e in
    let short = not_long b.end c.end fetched.end_stays open_still in
    let old = k.in_pace refl short in
    let moment = moment_told pace f b.source.paced k.same_pace k.past told in
    let given : b.source.paced.given ≡ came_by s pace.interval here before = sym (same_interval pace.interval f b.source.paced.given) ∙ ap (λ m. given_since pace.interval m f b.source.paced.given) (sym moment) ∙ old.given in
    let gives = paced.counted old.in_step in
    let total : c.source.paced.given ≡ came_by s pace.interval here before = (let count = gives.count in omega (arith, count)) ∙ given in
    let moment' : c.source.paced.moment ≡ f = paced.kept.same_moment ∙ moment in
    record {
      same_pace = paced.kept.same_pace ∙ k.same_pace;
      some = k.some;
      past = let same = goes.same_fetch in omega (arith, moment', same);
      low = paced.kept.within k.low;
      within = λ i. let low = k.within i in let same = goes.came pace.interval i in omega (arith, low, same);
      own = subst (λ n. RoseBy n opened.paced.own c.source.paced.own) (sym (goes.own pace.share pace.interval))
          (own_by (is_used_up pace.share pace.interval before s) refl paced.held_up total k.own paced.kept.own_stays);
      in_pace = λ none not. record {
        given =
            ap (λ x. given_since pace.interval c.source.paced.moment x c.source.paced.given) goes.same_fetch
            ∙ ap (λ m. given_since pace.interval m f c.source.paced.given) moment'
            ∙ same_interval pace.interval f c.source.paced.given
            ∙ total
            ∙ sym (goes.came pace.interval here)
            ∙ ap (λ x. came_by s pace.interval (x / pace.interval) after) (sym goes.same_fetch);
        in_step = gives.in_step;
      };
    }
  where
    no_end : (e : Option LineEnd) → e ≡ None → e ≡ Some end.TooLong → ⊥
    no_end e none long = let x : None ≡ Some end.TooLong = sym none ∙ long in cc

    own_by : (used : Bool) → is_used_up pace.share pace.interval before s ≡ used → IsHeldUp pace b.source.paced c.source.paced
        → c.source.paced.given ≡ came_by s pace.interval (fetched_at before s / pace.interval) before → RoseBy (own_quiets pace.share pace.interval before s) opened.paced.own b.source.paced.own → b.source.paced.own ≤ c.source.paced.own
        → RoseBy (if used then own_quiets pace.share pace.interval before s else own_quiets pace.share pace.interval before s + 1) opened.paced.own c.source.paced.own
    own_by true e held total own on = rise_stays (own_quiets pace.share pace.interval before s) opened.paced.own b.source.paced.own c.source.paced.own own on
    own_by false e (inl rose) total own on = rise_one (own_quiets pace.share pace.interval before s) opened.paced.own b.source.paced.own c.source.paced.own own rose on
    own_by false e (inr full) total own on =
        let low : came_by s pace.interval (fetched_at before s / pace.interval) before < pace.share = leb-false pace.share (came_by s pace.interval (fetched_at before s / pace.interval) before) e in
        absurd (omega (arith, low, total, full))

-- the source ended
pub ends : (p : Option Pace) (before after : History) (s : StageNo) (most : ℕ) (h : SourceHow) (opened : SourceSeen) (b c : LineSeen) → p ≡ opened.paced.pace → PaceGoes before after s []
    → IsTold before s b → Fetches most (came.Ended h) b c → KeepsPaceBy p before s true opened b → KeepsPaceBy p after s true opened c
ends None before after s most h opened b c is goes told fetched k =
    let none : b.source.paced.pace ≡ None = ap (λ x. x.pace) k ∙ sym is in
    let same : c.source.paced ≡ b.source.paced = subst (λ o. FetchIsPaced o (came.Ended h) b c) none fetched.paced in
    same ∙ k
ends (Some pace) before after s most h opened b c is goes told fetched k =
    let f = fetched_at before s in
    let here = f / pace.interval in
    let paced : FetchKeepsPace pace (came.Ended h) b c = subst (λ o. FetchIsPaced o (came.Ended h) b c) k.same_pace fetched.paced in
    let moment = moment_told pace f b.source.paced k.same_pace k.past told in
    let moment' : c.source.paced.moment ≡ f = paced.kept.same_moment ∙ moment in
    record {
      same_pace = paced.kept.same_pace ∙ k.same_pace;
      some = k.some;
      past = let same = goes.same_fetch in omega (arith, moment', same);
      low = paced.kept.within k.low;
      within = λ i. let low = k.within i in let same = no_more i in omega (arith, low, same);
      own = subst (λ n. RoseBy n opened.paced.own c.source.paced.own) (sym (goes.own pace.share pace.interval))
          (rise_stays (own_quiets pace.share pace.interval before s) opened.paced.own b.source.paced.own c.source.paced.own k.own paced.kept.own_stays);
      in_pace = λ none not.
          let short = not_long b.end c.end fetched.end_stays not in
          let old = k.in_pace refl short in
          let given : b.source.paced.given ≡ came_by s pace.interval here before = sym (same_interval pace.interval f b.source.paced.given) ∙ ap (λ m. given_since pace.interval m f b.source.paced.given) (sym moment) ∙ old.given in
          let gives : Gives b.source.paced.given 0 c.source.paced c.waiting = by_how h fetched.answer not (paced.counted old.in_step) in
          let total : c.source.paced.given ≡ came_by s pace.interval here before = (let count = gives.count in omega (arith, count)) ∙ given in
          record {
            given =
                ap (λ x. given_since pace.interval c.source.paced.moment x c.source.paced.given) goes.same_fetch
                ∙ ap (λ m. given_since pace.interval m f c.source.paced.given) moment'
                ∙ same_interval pace.interval f c.source.paced.given
                ∙ total
                ∙ sym (no_more here)
                ∙ ap (λ x. came_by s pace.interval (x / pace.interval) after) (sym goes.same_fetch);
            in_step = gives.in_step;
          };
    }
  where
    same_if : (t : Bool) (x : ℕ) → (if t then x + 0 else x) ≡ x
    same_if true x = omega arith
    same_if false x = refl

    no_more : (i : ℕ) → came_by s pace.interval i after ≡ came_by s pace.interval i before
    no_more i = goes.came pace.interval i ∙ same_if (fetched_at before s / pace.interval == i) (came_by s pace.interval i before)

    by_how : (h : SourceHow) → IsFetched most b.source.waits c.source.waits c.waiting c.end (came.Ended h) → ¬ (c.end ≡ Some end.TooLong) → FetchGives b.source.paced.given c (came.Ended h) → Gives b.source.paced.given 0 c.source.paced c.waiting
    by_how how.End answer not gives = gives
    by_how how.Fault answer not gives = gives
    by_how how.TooLong answer not gives = absurd (not answer)
    by_how how.Limit answer not gives = gives
