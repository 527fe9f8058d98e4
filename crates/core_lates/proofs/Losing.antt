-- Records that come late are accepted, and lost as their producer was.
use Rattle.std.proofs.Common.{◌≡◌, ℕ, suc, ◌+◌, ◌*◌, ◌<◌, ◌≤◌, List, ◌∷◌, ◌++◌, length, replicate, Bool, true, false, refl, ap, sym, ◌∙◌, Some, None, Option, arith, inl, inr}
use Rattle.std.specs.Prelude.{slice_get, option_map, if◌then◌else◌, ◌==◌, ◌⊎◌, is_some}
use Rattle.std.specs.declared.alloc.Global.{Global}
use Rattle.std.specs.declared.vec.Vec.{Vec}
use Rattle.std.proofs.lemmas.Bool.{cases_lt}
use Rattle.std.proofs.lemmas.List.{length-append, length-replicate}
use Rattle.pipe_types.specs.declared.numbers.StageNo.{StageNo}
use Rattle.pipe_types.specs.declared.topology.Topology.{Topology}
use Rattle.pipe_types.specs.declared.message.Why.{Why}
use Rattle.pipe_types.specs.declared.message.Loss.TheVariants.{Killed}
use Rattle.pipe_types.specs.declared.message.Place.{Place}
use Rattle.pipe_types.specs.declared.message.Place.TheVariants.{Lost}
use Rattle.pipe_types.specs.declared.step.LateAnswer.TheVariants.{Records}
use Rattle.pipe_types.specs.declared.step.Step.TheVariants.{Late}
use Rattle.pipe_types.specs.Sound.{IsSound}
use Rattle.pipe_model.specs.History.{History, accepted, accepted_bytes, bytes_in}
use Rattle.pipe_model.specs.Lives.{death}
use Rattle.pipe_model.specs.Content.{is_among_next}
use Rattle.pipe_model.specs.Flow.{place, accepted_to, late_place}
use Rattle.pipe_model.specs.Legal.{is_legal, allows, has_role, is_producer_role}
use Rattle.pipe_model.specs.Moves.{is_final}
use Rattle.pipe_laws.proofs.Accepted.{among_next, next_among, placed_accepted, accepted_placed}
use Rattle.pipe_laws.proofs.Allowed.{late_facts}
use Rattle.pipe_laws.proofs.Held.{role_known}
use Rattle.pipe_laws.proofs.Tests.{and_left, clash}
use Rattle.queue_laws.proofs.Late.{late_dead, death_some}
use Rattle.stage_laws.proofs.Records.{accepted_small}
use Rattle.pipe_journal.specs.Recorded.{Recorded}
use Rattle.core_tables.specs.declared.rows.StageRow.{StageRow}
use Rattle.core_tables.specs.declared.rows.PostRow.{PostRow}
use Rattle.core_tables.specs.declared.rows.ContentRow.{ContentRow}
use Rattle.core_tables.specs.declared.rows.Totals.{Totals}
use Rattle.core_tables.specs.Rows.{post_at, home}
use Rattle.core_tables.specs.Tables.{contents_up}
use Rattle.core_laws.specs.Columns.{stage_row, mark, at_record}
use Rattle.core_laws.proofs.Accepting.{bytes_few}
use Rattle.core_state.specs.declared.state.Core.{Core}
use Rattle.core_state.specs.Stands.{Fields}
use Rattle.core_tables.proofs.NewRows.{behind, placed_new, contents_new, contents_count}
use Rattle.core_lates.proofs.Leaving.{Changed, left_fields, mark_left}
use Rattle.core_lates.proofs.Answering.{IsLate, post_of, late_leaves, late_posts}

-- a late answer with records that is legal
pub record IsLosing (topology : Topology) (before : History) (s : StageNo) (slot i : ℕ) (records : List (List ℕ)) : Type 0 where
  pub late : IsLate topology before s slot i (Records records)
  pub dead : is_some (death topology before s) ≡ true
  pub fits : accepted before + length records ≤ 2000000
  pub bytes : accepted_bytes before + bytes_in records ≤ 2000000 * 65536

pub losing : (topology : Topology) (before : History) (s : StageNo) (slot i : ℕ) (records : List (List ℕ)) → IsSound topology → is_legal topology before ≡ true
    → allows topology before (Late s slot i (Records records)) ≡ true → IsLosing topology before s slot i records
losing topology before s slot i records sound legal h =
    let known : IsLate topology before s slot i (Records records) = post_of topology before s slot i (Records records) sound legal h in
    let role : has_role topology s is_producer_role ≡ true = and_left (has_role topology s is_producer_role) _ (late_facts topology before s slot i (Records records) h).fits in
    let few : accepted before + length records ≤ 2000000 = accepted_small topology (Late s slot i (Records records) ∷ before) sound known.after in
    let small : accepted_bytes before + bytes_in records ≤ (accepted before + length records) * 65536 = bytes_few topology (Late s slot i (Records records) ∷ before) known.after in
    record {
      late = known;
      dead = death_some topology before s (role_known topology s is_producer_role role) (late_dead topology before s slot i (Records records) known.after role);
      fits = few;
      bytes = omega (arith, few, small);
    }

-- the row of the stage says why it is dead
pub death_read : (core : Core) (topology : Topology) (before : History) (s : StageNo) (row : StageRow) → Fields core topology before → s.0 ≤ length topology.stages → slice_get core.stages.items s.0 ≡ Some row
    → row.dead ≡ death topology before s
death_read core topology before s row x within at =
    let there : Some row ≡ Some (stage_row topology before s) = sym at ∙ x.stages s within in
    let is : row ≡ stage_row topology before s = cc in
    ap (λ (r : StageRow). r.dead) is

-- Places and marks

-- a message that was accepted before stands where it stood
place_old : (topology : Topology) (before : History) (s : StageNo) (slot i : ℕ) (records : List (List ℕ)) (n : ℕ) → 1 ≤ n → n ≤ accepted before
    → place topology (Late s slot i (Records records) ∷ before) n ≡ place topology before n
place_old topology before s slot i records n least most = by (place topology before n) (accepted_placed topology before n least most)
  where
    by : (o : Option Place) → is_some o ≡ true → accepted_to (accepted before) (length records) (late_place s i (death topology before s)) n o ≡ o
    by (Some p) h = refl
    by None h = cc

-- and each that comes is settled by this step
mark_lost : (topology : Topology) (before : History) (s : StageNo) (slot i : ℕ) (records : List (List ℕ)) (why : Why) (n : ℕ) → death topology before s ≡ Some why
    → accepted before < n → n ≤ accepted before + length records → mark topology (Late s slot i (Records records) ∷ before) n ≡ length before
mark_lost topology before s slot i records why n dead low high = by (place topology before n) refl
  where
    by : (o : Option Place) → place topology before n ≡ o
        → (if is_final o then mark topology before n else (if is_final (accepted_to (accepted before) (length records) (late_place s i (death topology before s)) n o) then length before else 0)) ≡ length before
    by (Some p) e = let was = placed_accepted topology before n (ap is_some e) in absurd (omega (arith, was.1, low))
    by None e =
        ap (λ b. if is_final (if b then Some (late_place s i (death topology before s)) else None) then length before else 0) (next_among (accepted before) (length records) n low high)
        ∙ ap (λ w. if is_final (Some (late_place s i w)) then length before else 0) dead

marks_after : (core : Core) (topology : Topology) (before : History) (s : StageNo) (slot i : ℕ) (records : List (List ℕ)) (why : Why) (k : ℕ) → Fields core topology before → death topology before s ≡ Some why
    → k < accepted before + length records
    → (if is_among_next (accepted before) (length records) (suc k) then Some (length before) else slice_get core.settled.items k) ≡ Some (mark topology (Late s slot i (Records records) ∷ before) (suc k))
marks_after core topology before s slot i records why k x dead below = by (is_among_next (accepted before) (length records) (suc k)) refl
  where
    by : (b : Bool) → is_among_next (accepted before) (length records) (suc k) ≡ b
        → (if b then Some (length before) else slice_get core.settled.items k) ≡ Some (mark topology (Late s slot i (Records records) ∷ before) (suc k))
    by true e =
        let t = among_next (accepted before) (length records) (suc k) e in
        ap Some (sym (mark_lost topology before s slot i records why (suc k) dead t.0 t.1))
    by false e = old (cases_lt k (accepted before))
      where
        old : (k < accepted before) ⊎ (accepted before ≤ k) → slice_get core.settled.items k ≡ Some (mark topology (Late s slot i (Records records) ∷ before) (suc k))
        old (inl low) =
            x.settled k low
            ∙ ap Some (sym (mark_left topology before (Late s slot i (Records records)) (suc k) (place_old topology before s slot i records (suc k) (omega arith) (omega (arith, low)))))
        old (inr far) = clash (is_among_next (accepted before) (length records) (suc k)) (next_among (accepted before) (length records) (suc k) (omega (arith, far)) (omega (arith, below))) e

-- The fields

-- so many rows more
more : {A : Type 0} (xs ys zs : List A) (n m : ℕ) → zs ≡ xs ++ ys → length xs ≡ n → length ys ≡ m → length zs ≡ n + m
more xs ys zs n m e f g = ap length e ∙ (length-append xs ys ∙ (ap (λ k. k + length ys) f ∙ ap (λ k. n + k) g))

-- the tables with the new rows
pub record Lose (core : Core) (before : History) (s : StageNo) (slot i : ℕ) (why : Why) (records : List (List ℕ)) (posts : Vec PostRow Global)
    (places : Vec Place Global) (settled : Vec ℕ Global) (producers : Vec StageNo Global) (contents : Vec ContentRow Global) : Type 0 where
  pub places-are : places.items ≡ core.places.items ++ replicate (length records) (Lost (Killed s i why))
  pub settled-are : settled.items ≡ core.settled.items ++ replicate (length records) (length before)
  pub producers-are : producers.items ≡ core.producers.items ++ replicate (length records) s
  pub contents-are : contents.items ≡ core.contents.items ++ contents_up (length before) 0 (length records)
  pub posts-are : (k : ℕ) → slice_get posts.items k ≡ (if post_at s.0 slot == k then option_map home (slice_get core.posts.items k) else slice_get core.posts.items k)
  pub posts-len : length posts.items ≡ length core.posts.items

pub lost_fields : (core : Core) (topology : Topology) (before : History) (s : StageNo) (slot i : ℕ) (why : Why) (records : List (List ℕ)) (j : Recorded) (posts : Vec PostRow Global)
    (places : Vec Place Global) (settled : Vec ℕ Global) (producers : Vec StageNo Global) (contents : Vec ContentRow Global) (totals : Totals)
    → Fields core topology before → IsSound topology → is_legal topology before ≡ true → IsLosing topology before s slot i records → death topology before s ≡ Some why
    → Lose core before s slot i why records posts places settled producers contents
    → totals ≡ record core.totals { accepted = core.totals.accepted + length records; bytes = core.totals.bytes + bytes_in records; quiet = 0 }
    → Fields (record core { journal = j; posts = posts; places = places; settled = settled; producers = producers; contents = contents; totals = totals }) topology (Late s slot i (Records records) ∷ before)
lost_fields core topology before s slot i why records j posts places settled producers contents totals x sound legal known dead new counted =
    left_fields core topology before (Late s slot i (Records records)) j core.stages posts places settled producers contents totals x sound legal
    (late_leaves topology before s slot i (Records records) sound known.late.after) changed
  where
    changed : Changed core topology (Late s slot i (Records records) ∷ before) core.stages posts places settled producers contents totals
    changed =
        record {
          rows-are = x.stages;
          rows-len = refl;
          posts-are = late_posts core topology before s slot i (Records records) posts x known.late.low new.posts-are;
          posts-len = new.posts-len;
          places-are = λ k. ap (λ ps. slice_get ps k) new.places-are ∙ (placed_new core.places.items (length records) (Lost (Killed s i why)) k
              ∙ (ap (λ n. accepted_to n (length records) (Lost (Killed s i why)) (suc k) (slice_get core.places.items k)) x.sized.places
              ∙ (ap (accepted_to (accepted before) (length records) (Lost (Killed s i why)) (suc k)) (x.places k)
              ∙ ap (λ w. accepted_to (accepted before) (length records) (late_place s i w) (suc k) (place topology before (suc k))) (sym dead))));
          places-len = more core.places.items (replicate (length records) (Lost (Killed s i why))) places.items (accepted before) (length records) new.places-are x.sized.places (length-replicate (length records) (Lost (Killed s i why)));
          marks-are = λ k below. ap (λ ms. slice_get ms k) new.settled-are ∙ (behind core.settled.items (length records) (length before) k
              ∙ (ap (λ n. if is_among_next n (length records) (suc k) then Some (length before) else slice_get core.settled.items k) x.sized.settled
              ∙ marks_after core topology before s slot i records why k x dead below));
          marks-len = more core.settled.items (replicate (length records) (length before)) settled.items (accepted before) (length records) new.settled-are x.sized.settled (length-replicate (length records) (length before));
          producers-are = λ k. ap (λ ps. slice_get ps k) new.producers-are ∙ (behind core.producers.items (length records) s k
              ∙ (ap (λ n. if is_among_next n (length records) (suc k) then Some s else slice_get core.producers.items k) x.sized.producers
              ∙ ap (λ o. if is_among_next (accepted before) (length records) (suc k) then Some s else o) (x.producers k)));
          producers-len = more core.producers.items (replicate (length records) s) producers.items (accepted before) (length records) new.producers-are x.sized.producers (length-replicate (length records) s);
          contents-are = λ k. ap (λ cs. slice_get cs k) new.contents-are ∙ (contents_new core.contents.items (length before) (length records) k
              ∙ (ap (λ n. at_record (length before) n (length records) (suc k) (slice_get core.contents.items k)) x.sized.contents
              ∙ ap (at_record (length before) (accepted before) (length records) (suc k)) (x.contents k)));
          contents-len = more core.contents.items (contents_up (length before) 0 (length records)) contents.items (accepted before) (length records) new.contents-are x.sized.contents (contents_count (length before) 0 (length records));
          totals-are = counted ∙ ap (λ (y : Totals). record y { accepted = y.accepted + length records; bytes = y.bytes + bytes_in records; quiet = 0 }) x.totals;
        }
