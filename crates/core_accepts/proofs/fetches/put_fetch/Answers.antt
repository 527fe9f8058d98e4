use Rattle.std.proofs.Common.{◌∷◌, refl, arith}
use Rattle.pipe_types.specs.declared.step.Step.TheVariants.{Fetch}
use Rattle.stage_laws.proofs.Numbering.{numbered_topology}
use Rattle.core_state.specs.declared.state.Core.{Core}
use Rattle.core_state.specs.Room.{Roomy}
use Rattle.core_state.proofs.Rooms.{room_due}
use Rattle.core_state.proofs.Steps.{holds_after, unowed_after, log_fetched}
use Rattle.core_accepts.proofs.Fetching.{fetched_fields, fetch_within}
use Rattle.core_accepts.proofs.Making.{fetch_rows, fetch_ends}
use Rattle.core_accepts.proofs.fetches.put_fetch.Goals as goal

pub note_fetch-requires : goal.note_fetch-requires
note_fetch-requires c =
    let x = c.requires.stands.holds in
    omega (arith, x.fields.sized.stages, fetch_within c.args.core.now.topology c.args.core.now.journal.steps c.args.stage c.args.n (numbered_topology c.args.core.now.topology x.sound) c.requires.legal)

pub put_out-requires : goal.put_out-requires
put_out-requires c =
    let x = c.requires.stands.holds in
    omega (arith, x.fields.sized.posts, fetch_within c.args.core.now.topology c.args.core.now.journal.steps c.args.stage c.args.n (numbered_topology c.args.core.now.topology x.sound) c.requires.legal)

pub returns-clause-stands : goal.returns-clause-stands
returns-clause-stands c =
    let core = c.args.core.now in
    let s = c.args.stage in
    let n = c.args.n in
    let x = c.requires.stands.holds in
    let core-new : Core = record core { journal = c.push_spare.new.self; stages = c.note_fetch.new.rows; posts = c.put_out.new.posts } in
    let fields = fetched_fields core core.topology core.journal.steps s n c.incarnation-from.result c.push_spare.new.self c.note_fetch.new.rows c.put_out.new.posts x.fields c.incarnation-from.ensures c.note_fetch.ensures.rows c.note_fetch.ensures.len c.put_out.ensures.posts c.put_out.ensures.len in
    let room : Roomy core-new core.topology (Fetch s n ∷ core.journal.steps) =
    record {
      steps = room_due core (Fetch s n ∷ core.journal.steps) core.journal.spare c.push_spare.new.self.spare x c.requires.steps c.push_spare.ensures.spare;
      rows = fetch_rows core s n x c.requires.rows;
      queues = x.room.queues;
      ends = λ t role out. fetch_ends core s n t x c.requires.legal role out;
    } in
    let holds = holds_after core core-new (Fetch s n) x refl c.push_spare.ensures.written c.requires.legal fields room
    (log_fetched core s n c.push_spare.new.self.acked x c.requires.legal c.requires.log c.push_spare.ensures.same_acked) in
    record { holds = holds; unowed = unowed_after core-new core.topology (Fetch s n) core.journal.steps refl c.push_spare.ensures.written refl }
