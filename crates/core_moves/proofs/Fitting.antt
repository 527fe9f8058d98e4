-- What a batcher may gather.
use Rattle.std.proofs.Common.{◌≡◌, ℕ, List, length, refl, ap, sym, Bool, true, false, Some, ◌∙◌, arith, get_or}
use Rattle.std.specs.Prelude.{◌&&◌, ◌==◌, not, nat_lt, nat_le, slice_get}
use Rattle.std.proofs.lemmas.Bool.Decides.{nat_tests}
use Rattle.std.proofs.lemmas.Option.{slice_get_read}
use Rattle.pipe_types.specs.declared.topology.Topology.{Topology}
use Rattle.pipe_types.specs.declared.topology.StageSpec.{StageSpec}
use Rattle.pipe_types.specs.Stages.{spec_of}
use Rattle.pipe_model.specs.History.{History}
use Rattle.pipe_model.specs.Content.{key_in, content}
use Rattle.pipe_model.specs.Lives.{is_live}
use Rattle.pipe_model.specs.Flow.{open_batch_by, view_of, inbox}
use Rattle.pipe_model.specs.Legal.{has_room, has_role, lets_in, may_gather, is_batcher_role, batch_size_in, ends_in_flush, first_unit}
use Rattle.pipe_model.specs.Standing.{gathered_in}
use Rattle.queue_laws.proofs.Laws.{open_law}
use Rattle.batcher.specs.Batches.{Batches, fits}
use Rattle.core_laws.specs.Columns.{open_batches}
use Rattle.core_batches.proofs.Opens.{fits_open}
use Rattle.core_state.specs.declared.state.Core.{Core}
use Rattle.core_state.specs.Stands.{Holds, opens_in}
use Rattle.core_moves.specs.Gathers.{may_gather_now}
use Rattle.core_rows.proofs.Known.{row_within}

-- the open batch of a key takes one more where the batcher's does
pub fits_is : (core : Core) (spec : StageSpec) (held : Batches) (key : List ℕ) → Holds core → spec_of core.topology spec.no ≡ Some spec → held ≡ get_or core.batchers.items spec.no.0 held
    → fits held.batch_size key held.batches ≡ lets_in core.topology core.journal.steps spec.no (open_batch_by core.journal.steps (view_of core.topology core.journal.steps) spec.no key)
fits_is core spec held key x there read =
    let t = core.topology in
    let h = core.journal.steps in
    let s = spec.no in
    let at : slice_get core.batchers.items s.0 ≡ Some held = slice_get_read core.batchers.items (length core.batchers.items) s.0 held refl (omega (arith, row_within t spec x.sound there, x.fields.sized.batchers)) read in
    let size : held.batch_size ≡ batch_size_in (spec_of t s) = (x.fields.set.batchers s spec held there at).0 ∙ ap batch_size_in (sym there) in
    let opens : held.batches ≡ open_batches h (gathered_in t h s) = sym (ap opens_in at) ∙ x.fields.opens s in
    ap (fits held.batch_size key) opens
    ∙ (fits_open h held.batch_size key (gathered_in t h s)
    ∙ (ap (λ xs. nat_lt (length xs) held.batch_size && not (ends_in_flush h xs)) (sym (open_law t h s key))
    ∙ ap (λ k. nat_lt (length (open_batch_by h (view_of t h) s key)) k && not (ends_in_flush h (open_batch_by h (view_of t h) s key))) size))

self : (n : ℕ) → (n == n) ≡ true
self n = grind (arith, nat_tests)

-- the first message of the inbox
pub gather_now : (topology : Topology) (before : History) (spec : StageSpec) → spec_of topology spec.no ≡ Some spec
    → may_gather_now topology before spec (first_unit (inbox topology before spec.no)) ≡ may_gather topology before spec.no (first_unit (inbox topology before spec.no))
gather_now topology before spec there =
    by (is_live topology before spec.no) (is_batcher_role spec.role) (nat_le 1 n) (has_room topology before spec.no && lets_in topology before spec.no (open_batch_by before (view_of topology before) spec.no (key_in (content before n))))
    (has_role topology spec.no is_batcher_role) (n == n) role (self n)
  where
    n : ℕ
    n = first_unit (inbox topology before spec.no)

    role : has_role topology spec.no is_batcher_role ≡ is_batcher_role spec.role
    role = rw there refl

    by : (l r o q h s : Bool) → h ≡ r → s ≡ true → (l && (r && (o && q))) ≡ (l && (h && (o && (s && q))))
    by l r o q h s i k = ap (λ x. l && (x && (o && (true && q)))) (sym i) ∙ ap (λ x. l && (h && (o && (x && q)))) (sym k)

-- a stage that is no batcher gathers nothing
pub gather_elsewhere : (topology : Topology) (before : History) (spec : StageSpec) → spec_of topology spec.no ≡ Some spec → is_batcher_role spec.role ≡ false
    → false ≡ may_gather topology before spec.no (first_unit (inbox topology before spec.no))
gather_elsewhere topology before spec there other =
    let n : ℕ = first_unit (inbox topology before spec.no) in
    let rest : Bool = nat_le 1 n && (has_room topology before spec.no && lets_in topology before spec.no (open_batch_by before (view_of topology before) spec.no (key_in (content before n)))) in
    by (is_live topology before spec.no) (is_batcher_role spec.role) rest other ∙ gather_now topology before spec there
  where
    by : (l r q : Bool) → r ≡ false → false ≡ (l && (r && q))
    by true r q h = ap (λ b. b && q) (sym h)
    by false r q h = refl
