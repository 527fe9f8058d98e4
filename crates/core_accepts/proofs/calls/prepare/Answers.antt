use Rattle.std.proofs.Common.{◌≡◌, ◌≤◌, ℕ, List, length, map, ap, sym, ◌∙◌, Some, All, true, arith, subst}
use Rattle.std.proofs.lemmas.List.{length-map}
use Rattle.pipe_types.specs.declared.room.Sent.{Sent}
use Rattle.pipe_model.specs.Lives.{is_live_sub}
use Rattle.core_sends.proofs.Roomy.{planned_live}
use Rattle.pipe_types.specs.declared.topology.StageSpec.{StageSpec}
use Rattle.pipe_types.specs.Stages.{spec_of}
use Rattle.pipe_types.specs.declared.topology.Topology.{Topology}
use Rattle.core_laws.specs.Enrolled.{record_part}
use Rattle.core_state.specs.declared.state.Core.{Core}
use Rattle.core_laws.proofs.Lawful.{lawful}
use Rattle.core_sends.specs.Rooms.{planned}
use Rattle.core_accepts.proofs.Bringing.{bringing, there}
use Rattle.core_sends.proofs.Queued.{plain_cast}
use Rattle.core_accepts.proofs.Planning.{no_batcher, planned_accepted}
use Rattle.core_accepts.proofs.calls.prepare.Goals as goal

pub unreachable-requires : goal.unreachable-requires
unreachable-requires c =
    let core = c.args.core.now in
    let x = c.requires.stands.holds in
    there core.topology c.args.stage (bringing core.topology core.journal.steps c.args.stage c.args.records.now x.sound x.legal c.requires.legal).known c.in_default.ensures

pub overflow_cast-count : goal.overflow_cast-count
overflow_cast-count c =
    let core = c.args.core.now in
    let x = c.requires.stands.holds in
    omega (arith, (bringing core.topology core.journal.steps c.args.stage c.args.records.now x.sound x.legal c.requires.legal).law.fits)

pub parts_in-requires : goal.parts_in-requires
parts_in-requires c =
    let core = c.args.core.now in
    let x = c.requires.stands.holds in
    record { parts = (bringing core.topology core.journal.steps c.args.stage c.args.records.now x.sound x.legal c.requires.legal).parts c.in-Some.spec.now (sym c.in-Some.ensures) }

pub plan-requires-clause-live : goal.plan-requires-clause-live
plan-requires-clause-live c =
    let core = c.args.core.now in
    let x = c.requires.stands.holds in
    (bringing core.topology core.journal.steps c.args.stage c.args.records.now x.sound x.legal c.requires.legal).law.live

pub plan-requires-clause-plain : goal.plan-requires-clause-plain
plan-requires-clause-plain c =
    let core = c.args.core.now in
    let x = c.requires.stands.holds in
    let b = bringing core.topology core.journal.steps c.args.stage c.args.records.now x.sound x.legal c.requires.legal in
    let found : spec_of core.topology c.args.stage ≡ Some c.in-Some.spec.now = sym c.in-Some.ensures in
    plain_cast core.topology c.args.stage x.sound (no_batcher core.topology c.args.stage c.in-Some.spec.now found (b.role c.in-Some.spec.now found))

pub plan-requires-clause-few : goal.plan-requires-clause-few
plan-requires-clause-few c =
    let core = c.args.core.now in
    let x = c.requires.stands.holds in
    let b = bringing core.topology core.journal.steps c.args.stage c.args.records.now x.sound x.legal c.requires.legal in
    let few = lawful.few core.topology core.journal.steps c.args.stage x.sound x.legal in
    let many : length c.deref.result.now ≡ length c.args.records.now =
    ap (λ (ps : List ℕ). length ps) (c.deref.ensures.value ∙ c.in_ok-parts.ensures) ∙ length-map c.args.records.now (record_part c.in-Some.spec.now) in
    omega (arith, b.law.fits, few, many)

pub make_room-requires-clause-live : goal.make_room-requires-clause-live
make_room-requires-clause-live c =
    let core = c.args.core.now in
    let x = c.requires.stands.holds in
    let live = (bringing core.topology core.journal.steps c.args.stage c.args.records.now x.sound x.legal c.requires.legal).law.live in
    subst (All (λ (d : Sent). is_live_sub core.topology core.journal.steps d.sub ≡ true)) (sym (c.deref-2.ensures.value ∙ c.in_ok-sent.ensures))
    (planned_live core.topology core.journal.steps c.args.stage c.deref.result.now live)

pub make_room-requires-2-clause-known : goal.make_room-requires-2-clause-known
make_room-requires-2-clause-known c =
    let core = c.args.core.now in
    let x = c.requires.stands.holds in
    let within = (bringing core.topology core.journal.steps c.args.stage c.args.records.now x.sound x.legal c.requires.legal).within c.in-Some.spec.now (sym c.in-Some.ensures) in
    subst (λ (t : Topology). c.args.stage.0 ≤ length t.stages) (sym (ap (λ (k : Core). k.topology) c.make_room.ensures.others)) within

pub returns-clause-planned : goal.returns-clause-planned
returns-clause-planned c =
    let core = c.args.core.now in
    let s = c.args.stage in
    let x = c.requires.stands.holds in
    let b = bringing core.topology core.journal.steps s c.args.records.now x.sound x.legal c.requires.legal in
    let spec : StageSpec = c.in-Some.spec.now in
    let found : spec_of core.topology s ≡ Some spec = sym c.in-Some.ensures in
    let parts : c.deref.result.now ≡ map (record_part spec) c.args.records.now = c.deref.ensures.value ∙ c.in_ok-parts.ensures in
    c.in_ok-sent.ensures
    ∙ (ap (planned core.topology core.journal.steps s) parts
    ∙ sym (planned_accepted core.topology core.journal.steps s spec c.args.records.now x.sound x.legal b.law found (b.role spec found)))
