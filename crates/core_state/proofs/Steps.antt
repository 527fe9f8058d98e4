-- A legal step, once its fields are known.
use Rattle.std.proofs.Common.{◌≡◌, ℕ, suc, ◌+◌, ◌-◌, ◌≤◌, List, [], ◌∷◌, ◌++◌, length, true, false, refl, ap, sym, ◌∙◌, subst, arith, Bool, None}
use Rattle.std.specs.Prelude.{◌&&◌, slice_get}
use Rattle.std.specs.List.{filter_map}
use Rattle.pipe_types.specs.declared.numbers.StageNo.{StageNo}
use Rattle.pipe_types.specs.declared.message.Place.{Place}
use Rattle.pipe_types.specs.declared.step.Step.{Step}
use Rattle.pipe_types.specs.declared.step.Step.TheVariants.{Fetch}
use Rattle.pipe_types.specs.declared.topology.Topology.{Topology}
use Rattle.pipe_types.specs.Sound.{IsSound}
use Rattle.pipe_model.specs.History.{History}
use Rattle.pipe_model.specs.Content.{producer_of}
use Rattle.pipe_model.specs.Flow.{place}
use Rattle.pipe_model.specs.Legal.{allows, is_legal, owed}
use Rattle.pipe_laws.proofs.Lists.{Each, each_weaker}
use Rattle.stage_laws.proofs.Records.{booked_step, fetch_booked}
use Rattle.settle_laws.specs.Settled.{is_newly, touched}
use Rattle.core_laws.specs.Acked.{ack_row, row_after}
use Rattle.core_laws.specs.Due.{booked}
use Rattle.core_laws.proofs.Acked.{MayAck, among_each, kept_alike, logged, unlogged, none_touched, none_moved, fits_log}
use Rattle.core_laws.proofs.Lawful.{legal_after}
use Rattle.core_state.specs.declared.state.Core.{Core}
use Rattle.core_state.specs.Room.{Roomy}
use Rattle.core_state.specs.Settles.{noted}
use Rattle.core_state.specs.Stands.{Fields, KeepsLog, Holds, Stands}
use Rattle.core_state.proofs.Rooms.{still_roomy}
use Rattle.core_state.proofs.Parts.{Part, FewStages, Says, unchanged, fields_of}
use Rattle.pipe_journal.specs.Recorded.{AckLog, Recorded}
use Rattle.pipe_journal.specs.Acked.{IsLog}

and_both : (a b : Bool) → a ≡ true → b ≡ true → (a && b) ≡ true
and_both true b h k = k
and_both false b h k = h

pub holds_after : (core new : Core) (step : Step) → Holds core → new.topology ≡ core.topology → new.journal.steps ≡ step ∷ core.journal.steps
    → allows core.topology core.journal.steps step ≡ true → Fields new core.topology (step ∷ core.journal.steps)
    → Roomy new core.topology (step ∷ core.journal.steps) → KeepsLog core.topology (step ∷ core.journal.steps) new.journal.acked → Holds new
holds_after core new step x same written allowed fields room log =
    let legal : is_legal core.topology (step ∷ core.journal.steps) ≡ true = and_both (is_legal core.topology core.journal.steps) (allows core.topology core.journal.steps step) x.legal allowed in
    record {
      sound = subst IsSound (sym same) x.sound;
      legal = ap (λ t. is_legal t new.journal.steps) same ∙ (ap (is_legal core.topology) written ∙ legal);
      fields = subst (λ (t : Topology). Fields new t new.journal.steps) (sym same) (subst (λ (h : History). Fields new core.topology h) (sym written) fields);
      room = subst (λ (t : Topology). Roomy new t new.journal.steps) (sym same) (subst (λ (h : History). Roomy new core.topology h) (sym written) room);
      log = subst (λ (t : Topology). KeepsLog t new.journal.steps new.journal.acked) (sym same) (subst (λ (h : History). KeepsLog core.topology h new.journal.acked) (sym written) log);
    }

-- The log

abbrev pub is_fetch : Step → Bool
is_fetch (Fetch s n) = true
is_fetch _ = false

no_fetch : (step : Step) → is_fetch step ≡ false → (s : StageNo) (n : ℕ) → step ≡ Fetch s n → ⊥
no_fetch step none s n e = let wrong : true ≡ false = sym (ap is_fetch e) ∙ none in cc

-- a step other than a fetch needs no more room in the log
pub log_room : (core : Core) (step : Step) (log : AckLog) → Holds core → allows core.topology core.journal.steps step ≡ true → is_fetch step ≡ false → log.room ≡ core.journal.acked.room
    → booked core.topology (step ∷ core.journal.steps) ≤ log.room
log_room core step log x allowed other same =
    let less = booked_step core.topology core.journal.steps step x.sound (legal_after core.topology core.journal.steps step x.legal allowed) (no_fetch step other) in
    let room = x.log.room in
    omega (arith, less, room, same)

-- one that acknowledges nothing leaves the log as it was
log_none : (core : Core) (step : Step) (log : AckLog) → Holds core → allows core.topology core.journal.steps step ≡ true → ((n : ℕ) → is_newly core.topology core.journal.steps step n ≡ false) → is_fetch step ≡ false
    → log ≡ core.journal.acked → KeepsLog core.topology (step ∷ core.journal.steps) log
log_none core step log x allowed none other same =
    record {
      rows = subst (λ (l : AckLog). IsLog core.topology (step ∷ core.journal.steps) l.rows) (sym same)
          (unlogged core.topology core.journal.steps step core.journal.acked.rows none x.log.rows);
      room = log_room core step log x allowed other (ap (λ (l : AckLog). l.room) same);
    }

pub log_kept : (core : Core) (step : Step) (log : AckLog) → Holds core → allows core.topology core.journal.steps step ≡ true → touched core.topology core.journal.steps step ≡ [] → is_fetch step ≡ false
    → log ≡ core.journal.acked → KeepsLog core.topology (step ∷ core.journal.steps) log
log_kept core step log x allowed none other same =
    log_none core step log x allowed (none_touched core.topology core.journal.steps step (legal_after core.topology core.journal.steps step x.legal allowed) none) other same

pub log_still : (core : Core) (step : Step) (log : AckLog) → Holds core → allows core.topology core.journal.steps step ≡ true
    → ((n : ℕ) → place core.topology (step ∷ core.journal.steps) n ≡ place core.topology core.journal.steps n) → is_fetch step ≡ false
    → log ≡ core.journal.acked → KeepsLog core.topology (step ∷ core.journal.steps) log
log_still core step log x allowed stays other same = log_none core step log x allowed (none_moved core.topology core.journal.steps step stays) other same

-- a fetch has made room for what it may bring
pub log_fetched : (core : Core) (s : StageNo) (n : ℕ) (log : AckLog) → Holds core → allows core.topology core.journal.steps (Fetch s n) ≡ true
    → booked core.topology core.journal.steps + n ≤ core.journal.acked.room → log ≡ core.journal.acked → KeepsLog core.topology (Fetch s n ∷ core.journal.steps) log
log_fetched core s n log x allowed room same =
    let more = fetch_booked core.topology core.journal.steps s n x.sound in
    record {
      rows = subst (λ (l : AckLog). IsLog core.topology (Fetch s n ∷ core.journal.steps) l.rows) (sym same)
          (unlogged core.topology core.journal.steps (Fetch s n) core.journal.acked.rows
          (none_touched core.topology core.journal.steps (Fetch s n) (legal_after core.topology core.journal.steps (Fetch s n) x.legal allowed) refl) x.log.rows);
      room = let e = ap (λ (l : AckLog). l.room) same in omega (arith, more, room, e);
    }

-- the rows of what the tables say of these messages, where the tables are those behind the step
pub noted_after : (core new : Core) (step : Step) (numbers : List ℕ) → Fields new core.topology (step ∷ core.journal.steps) → Each (λ n. 1 ≤ n) numbers
    → filter_map (noted new.places.items new.producers.items (length core.journal.steps)) numbers ≡ filter_map (row_after core.topology core.journal.steps step) numbers
noted_after core new step numbers x least =
    kept_alike (noted new.places.items new.producers.items (length core.journal.steps)) (row_after core.topology core.journal.steps step) numbers
    (each_weaker (λ n. 1 ≤ n) (λ n. noted new.places.items new.producers.items (length core.journal.steps) n ≡ row_after core.topology core.journal.steps step n) one numbers least)
  where
    one : (n : ℕ) → 1 ≤ n → noted new.places.items new.producers.items (length core.journal.steps) n ≡ row_after core.topology core.journal.steps step n
    one n low =
        let there : suc (n - 1) ≡ n = omega (arith, low) in
        ap (λ p. ack_row p (slice_get new.producers.items (n - 1)) (length core.journal.steps) n) (x.places (n - 1) ∙ ap (place core.topology (step ∷ core.journal.steps)) there)
        ∙ ap (λ s. ack_row (place core.topology (step ∷ core.journal.steps) n) s (length core.journal.steps) n) (x.producers (n - 1) ∙ ap (producer_of (step ∷ core.journal.steps)) there)

-- a step that acknowledges some of these messages has their rows behind the log
pub log_by : (core : Core) (step : Step) (numbers : List ℕ) (log : AckLog) → Holds core → allows core.topology core.journal.steps step ≡ true → is_fetch step ≡ false → MayAck core.topology core.journal.steps step numbers
    → log.rows ≡ core.journal.acked.rows ++ filter_map (row_after core.topology core.journal.steps step) numbers → log.room ≡ core.journal.acked.room
    → KeepsLog core.topology (step ∷ core.journal.steps) log
log_by core step numbers log x allowed other may rows room =
    record {
      rows = subst (IsLog core.topology (step ∷ core.journal.steps)) (sym rows)
          (logged core.topology core.journal.steps step numbers core.journal.acked.rows (legal_after core.topology core.journal.steps step x.legal allowed) x.log.rows may);
      room = log_room core step log x allowed other room;
    }

-- where the rows are those of what the tables say of the messages behind the step
pub log_noted : (core new : Core) (step : Step) (numbers : List ℕ) (log : AckLog) (places : List Place) (producers : List StageNo) (at : ℕ) (ns : List ℕ)
    → Holds core → allows core.topology core.journal.steps step ≡ true → is_fetch step ≡ false → MayAck core.topology core.journal.steps step numbers
    → Fields new core.topology (step ∷ core.journal.steps) → places ≡ new.places.items → producers ≡ new.producers.items → at ≡ length core.journal.steps → ns ≡ numbers
    → log.rows ≡ core.journal.acked.rows ++ filter_map (noted places producers at) ns → log.room ≡ core.journal.acked.room
    → KeepsLog core.topology (step ∷ core.journal.steps) log
log_noted core new step numbers log places producers at ns x allowed other may fields p-is s-is at-is ns-is rows room =
    let are : filter_map (noted places producers at) ns ≡ filter_map (row_after core.topology core.journal.steps step) numbers =
    (λ i. filter_map (noted (p-is i) (s-is i) (at-is i)) (ns-is i))
    ∙ noted_after core new step numbers fields (among_each (λ n. 1 ≤ n) numbers (λ n there. (may.there n there).0)) in
    log_by core step numbers log x allowed other may (rows ∙ ap (λ rs. core.journal.acked.rows ++ rs) are) room

-- and the log has room for them
pub log_fits : (core : Core) (step : Step) (numbers : List ℕ) → Holds core → MayAck core.topology core.journal.steps step numbers → length core.journal.acked.rows + length numbers ≤ core.journal.acked.room
log_fits core step numbers x may =
    let few = fits_log core.topology core.journal.steps step numbers core.journal.acked.rows x.log.rows may in
    let room = x.log.room in
    omega (arith, few, room)

-- a log with the same rows and no less room
pub log_roomier : (topology : Topology) (before : History) (old new : AckLog) → KeepsLog topology before old → new.rows ≡ old.rows → old.room ≤ new.room → KeepsLog topology before new
log_roomier topology before old new x same more =
    record { rows = subst (IsLog topology before) (sym same) x.rows; room = let room = x.room in omega (arith, room, more) }

-- a step that owes none
pub unowed_after : (new : Core) (topology : Topology) (step : Step) (before : History) → new.topology ≡ topology → new.journal.steps ≡ step ∷ before
    → owed topology (step ∷ before) ≡ None → owed new.topology new.journal.steps ≡ None
unowed_after new topology step before same written none = ap (λ t. owed t new.journal.steps) same ∙ (ap (owed topology) written ∙ none)

-- Where the journal alone made room, the fields are as they were
pub same_fields : (core : Core) (j : Recorded) (topology : Topology) (before : History) → Fields core topology before → Fields (record core { journal = j }) topology before
same_fields core j topology before x = fields_of says
  where
    says : (it : Part) → Says it (record core { journal = j }) topology before
    says FewStages = x.sized.few
    says it = unchanged x it

pub still_stands : (core : Core) (j : Recorded) → Stands core → j.steps ≡ core.journal.steps → core.journal.spare ≤ j.spare → j.acked ≡ core.journal.acked → Stands (record core { journal = j })
still_stands core j x same spare acked =
    record {
      holds =
          record {
            sound = x.holds.sound;
            legal = ap (is_legal core.topology) same ∙ x.holds.legal;
            fields = subst (λ (h : History). Fields (record core { journal = j }) core.topology h) (sym same) (same_fields core j core.topology core.journal.steps x.holds.fields);
            room = subst (λ (h : History). Roomy (record core { journal = j }) core.topology h) (sym same) (still_roomy core j core.topology core.journal.steps x.holds.room spare);
            log = subst (λ (h : History). KeepsLog core.topology h j.acked) (sym same) (subst (KeepsLog core.topology core.journal.steps) (sym acked) x.holds.log);
          };
      unowed = ap (owed core.topology) same ∙ x.unowed;
    }
