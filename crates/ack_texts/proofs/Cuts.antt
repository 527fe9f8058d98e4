-- Where a log is cut between two steps, and the rows of one step.
use Rattle.std.proofs.Common.{◌≡◌, ◌≢◌, ℕ, suc, ◌+◌, ◌<◌, ◌≤◌, List, [], ◌∷◌, ◌++◌, length, drop, get_or, true, false, refl, ap, sym, ◌∙◌, subst, arith, All}
use Rattle.std.specs.List.{flat_map}
use Rattle.std.proofs.lemmas.List.{append-nil, append_assoc, length-append}
use Rattle.pipe_types.specs.declared.topology.Topology.{Topology}
use Rattle.pipe_types.specs.declared.topology.StageSpec.{StageSpec}
use Rattle.pipe_types.specs.declared.step.Step.{Step}
use Rattle.pipe_model.specs.History.{History}
use Rattle.pipe_model.specs.Acknowledgements.{Acknowledgement, acknowledgements, acknowledged_by, settled_by, entry, is_acked_successful, is_acked_failed}
use Rattle.pipe_laws.proofs.Lists.{Each, each-append, each_weaker}
use Rattle.pipe_journal.specs.declared.acked.AckRow.{AckRow}
use Rattle.pipe_journal.specs.Acked.{AreAcked, IsAckRow, IsLog}
use Rattle.ack_texts.specs.Groups.{Early, Late}
use Rattle.ack_texts.proofs.Logged.{successful_is, failed_is}
use Rattle.ack_texts.proofs.Members.{side_none}

-- Rows of earlier and of later steps

all_each : {A : Type 0} (P : A → Type 0) (xs : List A) → All P xs → Each P xs
all_each P [] h = tt
all_each P (x ∷ xs) h = (h 0 x (omega arith), all_each P xs (λ k d below. h (suc k) d (omega (arith, below))))

-- the rows of a step are all of its place
pub of_step : (topology : Topology) (before : History) (step : Step) (rows : List AckRow) → AreAcked topology before step rows → Each (λ row. row.at ≡ length before) rows
of_step topology before step rows are =
    each_weaker (IsAckRow topology before step) (λ row. row.at ≡ length before) (λ row is. is.at) rows (all_each (IsAckRow topology before step) rows are.each)

pub all_early : (topology : Topology) (before : History) (rows : List AckRow) → IsLog topology before rows → Early (length before) rows
all_early topology [] rows log = subst (Early 0) (sym log) tt
all_early topology (step ∷ before) rows log =
    subst (Early (suc (length before))) (sym log.2)
    (each-append (λ row. row.at < suc (length before)) log.0 log.1
    (each_weaker (λ row. row.at < length before) (λ row. row.at < suc (length before)) (λ row low. omega (arith, low)) log.0 (all_early topology before log.0 log.3))
    (each_weaker (λ row. row.at ≡ length before) (λ row. row.at < suc (length before)) (λ row is. omega (arith, is)) log.1 (of_step topology before step log.1 log.4)))

-- The cut behind some steps

pub record Cut (topology : Topology) (before : History) (rows : List AckRow) : Type 0 where
  pub first : List AckRow
  pub rest : List AckRow
  pub is : rows ≡ first ++ rest
  pub log : IsLog topology before first
  pub late : Late (length before) rest

longer : (topology : Topology) (later before : History) (step : Step) (older last rows : List AckRow) → Cut topology before older → rows ≡ older ++ last → AreAcked topology (later ++ before) step last → Cut topology before rows
longer topology later before step older last rows c is are =
    record {
      first = c.first;
      rest = c.rest ++ last;
      is = is ∙ (ap (λ rs. rs ++ last) c.is ∙ append_assoc c.first c.rest last);
      log = c.log;
      late = each-append (λ row. length before ≤ row.at) c.rest last c.late
          (each_weaker (λ row. row.at ≡ length (later ++ before)) (λ row. length before ≤ row.at) (λ row at. omega (arith, at, length-append later before)) last (of_step topology (later ++ before) step last are));
    }

pub cut : (topology : Topology) (later before : History) (rows : List AckRow) → IsLog topology (later ++ before) rows → Cut topology before rows
cut topology [] before rows log = record { first = rows; rest = []; is = sym (append-nil rows); log = log; late = tt }
cut topology (step ∷ later) before rows log = longer topology later before step log.0 log.1 rows (cut topology later before log.0 log.3) log.2 log.4

-- there is but one
high_first : {A : Type 0} (m : ℕ) (ys : List AckRow) (u : AckRow) (us : List AckRow) → ys ≡ u ∷ us → Late m ys → u.at < m → A
high_first m [] u us e h low = absurd (let wrong = ap length e in omega (arith, wrong))
high_first m (y ∷ ys) u us e h low =
    let same : y ≡ u = ap (λ zs. get_or zs 0 y) e in
    let at = ap (λ (row : AckRow). row.at) same in
    let high : m ≤ y.at = h.0 in
    absurd (omega (arith, at, high, low))

pub parted : (m : ℕ) (xs ys us vs : List AckRow) → xs ++ ys ≡ us ++ vs → Early m xs → Late m ys → Early m us → Late m vs → (xs ≡ us) × (ys ≡ vs)
parted m [] ys [] vs e a b c d = (refl, e)
parted m [] ys (u ∷ us) vs e a b c d = high_first m ys u (us ++ vs) e b c.0
parted m (x ∷ xs) ys [] vs e a b c d = high_first m vs x (xs ++ ys) (sym e) d a.0
parted m (x ∷ xs) ys (u ∷ us) vs e a b c d =
    let head : x ≡ u = ap (λ zs. get_or zs 0 x) e in
    let rest = parted m xs ys us vs (ap (drop 1) e) a.1 b c.1 d in
    ((λ i. head i ∷ rest.0 i), rest.1)

-- Steps without rows

no_entries : (topology : Topology) (before : History) (step : Step) (specs : List StageSpec) → AreAcked topology before step []
    → flat_map (λ spec. entry spec.no (settled_by topology before step spec.no is_acked_successful) (settled_by topology before step spec.no is_acked_failed)) specs ≡ []
no_entries topology before step [] are = refl
no_entries topology before step (spec ∷ specs) are =
    (λ i. entry spec.no (good i) (bad i) ++ flat_map (λ (x : StageSpec). entry x.no (settled_by topology before step x.no is_acked_successful) (settled_by topology before step x.no is_acked_failed)) specs)
    ∙ no_entries topology before step specs are
  where
    good : settled_by topology before step spec.no is_acked_successful ≡ []
    good = side_none [] (settled_by topology before step spec.no is_acked_successful) (successful_is topology before step [] spec.no are) (λ n le. refl)

    bad : settled_by topology before step spec.no is_acked_failed ≡ []
    bad = side_none [] (settled_by topology before step spec.no is_acked_failed) (failed_is topology before step [] spec.no are) (λ n le. refl)

-- a step without a row acknowledges nothing
pub no_rows : (topology : Topology) (before : History) (step : Step) → AreAcked topology before step [] → acknowledged_by topology before step ≡ []
no_rows topology before step are = no_entries topology before step topology.stages are

none_late : (m : ℕ) (rows : List AckRow) → Early m rows → Late m rows → rows ≡ []
none_late m [] a b = refl
none_late m (row ∷ rows) a b = absurd (let low : row.at < m = a.0 in let high : m ≤ row.at = b.0 in omega (arith, low, high))

pub each_last : (P : AckRow → Type 0) (xs ys : List AckRow) → Each P (xs ++ ys) → Each P ys
each_last P [] ys h = h
each_last P (x ∷ xs) ys h = each_last P xs ys h.1

-- where the log did not grow, nothing was acknowledged
pub nothing_more : (topology : Topology) (later before : History) (rows : List AckRow) → Early (length before) rows → IsLog topology (later ++ before) rows → acknowledgements topology (later ++ before) ≡ acknowledgements topology before
nothing_more topology [] before rows early log = refl
nothing_more topology (step ∷ later) before rows early log =
    (λ i. acknowledgements topology (later ++ before) ++ none i) ∙ (append-nil (acknowledgements topology (later ++ before)) ∙ nothing_more topology later before log.0 older log.3)
  where
    both : Early (length before) (log.0 ++ log.1)
    both = subst (Early (length before)) log.2 early

    at_end : (row : AckRow) → row.at ≡ length (later ++ before) → length before ≤ row.at
    at_end row at = omega (arith, at, length-append later before)

    last : log.1 ≡ []
    last =
        none_late (length before) log.1 (each_last (λ row. row.at < length before) log.0 log.1 both)
        (each_weaker (λ row. row.at ≡ length (later ++ before)) (λ row. length before ≤ row.at) at_end log.1 (of_step topology (later ++ before) step log.1 log.4))

    older : Early (length before) log.0
    older = subst (Early (length before)) (ap (λ rs. log.0 ++ rs) last ∙ append-nil log.0) both

    none : acknowledged_by topology (later ++ before) step ≡ []
    none = no_rows topology (later ++ before) step (subst (AreAcked topology (later ++ before) step) last log.4)

-- The rows of one step

-- Behind the rows of the first steps stand those of one later step, and then later ones: nothing was acknowledged between, and these are all of that step's
pub record Next (topology : Topology) (before middle : History) (step : Step) (first group : List AckRow) : Type 0 where
  pub acked : AreAcked topology middle step group
  pub log : IsLog topology (step ∷ middle) (first ++ group)
  pub text : acknowledgements topology (step ∷ middle) ≡ acknowledgements topology before ++ acknowledged_by topology middle step

pub next : (topology : Topology) (later between before : History) (step : Step) (rows first group rest : List AckRow) → IsLog topology (later ++ (step ∷ (between ++ before))) rows → rows ≡ first ++ (group ++ rest)
    → Early (length before) first → Each (λ row. row.at ≡ length (between ++ before)) group → Late (suc (length (between ++ before))) rest
    → Next topology before (between ++ before) step first group
next topology later between before step rows first group rest log is early here late =
    record {
      acked = subst (AreAcked topology (between ++ before) step) (sym groups) c.log.4;
      log = (first, group, refl, subst (IsLog topology (between ++ before)) (sym firsts) c.log.3, subst (AreAcked topology (between ++ before) step) (sym groups) c.log.4);
      text = ap (λ acks. acks ++ acknowledged_by topology (between ++ before) step)
          (nothing_more topology between before first early (subst (IsLog topology (between ++ before)) (sym firsts) c.log.3));
    }
  where
    c : Cut topology (step ∷ (between ++ before)) rows
    c = cut topology later (step ∷ (between ++ before)) rows log

    low : (row : AckRow) → row.at < length before → row.at < length (between ++ before)
    low row at = omega (arith, at, length-append between before)

    firsts_early : Early (length (between ++ before)) first
    firsts_early = each_weaker (λ row. row.at < length before) (λ row. row.at < length (between ++ before)) low first early

    ends : (c.log.0 ++ (c.log.1 ++ c.rest)) ≡ first ++ (group ++ rest)
    ends = sym (append_assoc c.log.0 c.log.1 c.rest) ∙ (ap (λ rs. rs ++ c.rest) (sym c.log.2) ∙ (sym c.is ∙ is))

    rest_late : (row : AckRow) → suc (length (between ++ before)) ≤ row.at → length (between ++ before) ≤ row.at
    rest_late row at = omega (arith, at)

    at_step : (row : AckRow) → row.at ≡ length (between ++ before) → length (between ++ before) ≤ row.at
    at_step row at = omega (arith, at)

    split : (c.log.0 ≡ first) × (c.log.1 ++ c.rest ≡ group ++ rest)
    split =
        parted (length (between ++ before)) c.log.0 (c.log.1 ++ c.rest) first (group ++ rest) ends (all_early topology (between ++ before) c.log.0 c.log.3)
        (each-append (λ row. length (between ++ before) ≤ row.at) c.log.1 c.rest
        (each_weaker (λ row. row.at ≡ length (between ++ before)) (λ row. length (between ++ before) ≤ row.at) at_step c.log.1 (of_step topology (between ++ before) step c.log.1 c.log.4))
        (each_weaker (λ row. suc (length (between ++ before)) ≤ row.at) (λ row. length (between ++ before) ≤ row.at) rest_late c.rest c.late))
        firsts_early
        (each-append (λ row. length (between ++ before) ≤ row.at) group rest (each_weaker (λ row. row.at ≡ length (between ++ before)) (λ row. length (between ++ before) ≤ row.at) at_step group here)
        (each_weaker (λ row. suc (length (between ++ before)) ≤ row.at) (λ row. length (between ++ before) ≤ row.at) rest_late rest late))

    under : (row : AckRow) → row.at ≡ length (between ++ before) → row.at < suc (length (between ++ before))
    under row at = omega (arith, at)

    again : (c.log.1 ≡ group) × (c.rest ≡ rest)
    again =
        parted (suc (length (between ++ before))) c.log.1 c.rest group rest split.1
        (each_weaker (λ row. row.at ≡ length (between ++ before)) (λ row. row.at < suc (length (between ++ before))) under c.log.1 (of_step topology (between ++ before) step c.log.1 c.log.4)) c.late
        (each_weaker (λ row. row.at ≡ length (between ++ before)) (λ row. row.at < suc (length (between ++ before))) under group here) late

    firsts : first ≡ c.log.0
    firsts = sym split.0

    groups : group ≡ c.log.1
    groups = sym again.0
