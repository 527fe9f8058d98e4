use Rattle.std.proofs.Common.{◌≡◌, ℕ, ◌+◌, ◌++◌, List, length, replicate, refl, ap, sym, ◌∙◌, Some, arith}
use Rattle.std.specs.Prelude.{slice_get, is_some}
use Rattle.std.proofs.lemmas.Option.{slice_get_read}
use Rattle.pipe_types.specs.declared.message.Loss.TheVariants.{Killed}
use Rattle.pipe_types.specs.declared.message.Place.TheVariants.{Lost}
use Rattle.pipe_types.specs.declared.step.LateAnswer.TheVariants.{Records}
use Rattle.pipe_model.specs.History.{History, accepted, accepted_bytes, bytes_in}
use Rattle.pipe_model.specs.Lives.{death}
use Rattle.core_tables.specs.declared.rows.StageRow.{StageRow}
use Rattle.core_tables.specs.declared.rows.Totals.{Totals}
use Rattle.core_tables.specs.Tables.{contents_up}
use Rattle.core_state.specs.declared.state.Core.{Core}
use Rattle.core_state.proofs.Rooms.{room_after}
use Rattle.pipe_types.specs.declared.step.Step.TheVariants.{Late}
use Rattle.core_lates.proofs.Answering.{late_stands}
use Rattle.core_lates.proofs.Rooms.{late_due, late_rows, step_room, rest_room}
use Rattle.core_lates.proofs.Losing.{losing, death_read, Lose, lost_fields}
use Rattle.core_lates.proofs.lates.lose_records.Goals as goal

pub index-row-requires : goal.index-row-requires
index-row-requires c =
    let core = c.args.core.now in
    let x = c.requires.stands.holds in
    let b = losing core.topology core.journal.steps c.args.post.stage c.args.post.slot c.args.incarnation c.args.records x.sound x.legal c.requires.legal in
    omega (arith, b.late.within, x.fields.sized.stages, core.stages.ok.0)

pub unwrap-why-requires : goal.unwrap-why-requires
unwrap-why-requires c =
    let core = c.args.core.now in
    let s = c.args.post.stage in
    let x = c.requires.stands.holds in
    let b = losing core.topology core.journal.steps s c.args.post.slot c.args.incarnation c.args.records x.sound x.legal c.requires.legal in
    let row : StageRow = c.index-row.result.now in
    let at : slice_get core.stages.items s.0 ≡ Some row = slice_get_read core.stages.items (length core.stages.items) s.0 row refl (omega (arith, b.late.within, x.fields.sized.stages)) c.index-row.ensures in
    ap is_some (death_read core core.topology core.journal.steps s row x.fields b.late.within at) ∙ b.dead

pub overflow_cast-count : goal.overflow_cast-count
overflow_cast-count c =
    let core = c.args.core.now in
    let x = c.requires.stands.holds in
    let b = losing core.topology core.journal.steps c.args.post.stage c.args.post.slot c.args.incarnation c.args.records x.sound x.legal c.requires.legal in
    omega (arith, ap (λ (rs : List (List ℕ)). length rs) c.as_slice.ensures, b.fits)

pub bytes_of-bytes-requires : goal.bytes_of-bytes-requires
bytes_of-bytes-requires c =
    let core = c.args.core.now in
    let x = c.requires.stands.holds in
    let b = losing core.topology core.journal.steps c.args.post.stage c.args.post.slot c.args.incarnation c.args.records x.sound x.legal c.requires.legal in
    record { small = omega (arith, ap bytes_in c.as_slice-2.ensures, b.bytes) }

pub come_home-requires : goal.come_home-requires
come_home-requires c =
    let core = c.args.core.now in
    let x = c.requires.stands.holds in
    let b = losing core.topology core.journal.steps c.args.post.stage c.args.post.slot c.args.incarnation c.args.records x.sound x.legal c.requires.legal in
    omega (arith, x.fields.sized.posts, b.late.within, b.late.low)

pub overflow_add-core : goal.overflow_add-core
overflow_add-core c =
    let core = c.args.core.now in
    let x = c.requires.stands.holds in
    let b = losing core.topology core.journal.steps c.args.post.stage c.args.post.slot c.args.incarnation c.args.records x.sound x.legal c.requires.legal in
    let many : core.totals.accepted ≡ accepted core.journal.steps = ap (λ (y : Totals). y.accepted) x.fields.totals in
    omega (arith, ap (λ (rs : List (List ℕ)). length rs) c.as_slice.ensures, many, b.fits)

pub overflow_add-core-2 : goal.overflow_add-core-2
overflow_add-core-2 c =
    let core = c.args.core.now in
    let x = c.requires.stands.holds in
    let b = losing core.topology core.journal.steps c.args.post.stage c.args.post.slot c.args.incarnation c.args.records x.sound x.legal c.requires.legal in
    let known : core.totals.bytes ≡ accepted_bytes core.journal.steps = ap (λ (y : Totals). y.bytes) x.fields.totals in
    let new : c.bytes_of-bytes.result ≡ bytes_in c.args.records = c.bytes_of-bytes.ensures ∙ ap bytes_in c.as_slice-2.ensures in
    omega (arith, known, new, b.bytes)

pub returns-clause-stands : goal.returns-clause-stands
returns-clause-stands c =
    let core = c.args.core.now in
    let s = c.args.post.stage in
    let slot = c.args.post.slot in
    let i = c.args.incarnation in
    let records : List (List ℕ) = c.args.records in
    let before : History = core.journal.steps in
    let x = c.requires.stands.holds in
    let b = losing core.topology before s slot i records x.sound x.legal c.requires.legal in
    let row : StageRow = c.index-row.result.now in
    let at : slice_get core.stages.items s.0 ≡ Some row = slice_get_read core.stages.items (length core.stages.items) s.0 row refl (omega (arith, b.late.within, x.fields.sized.stages)) c.index-row.ensures in
    let why = c.unwrap-why.result in
    let dead : death core.topology before s ≡ Some why = sym (death_read core core.topology before s row x.fields b.late.within at) ∙ c.unwrap-why.ensures in
    let count : length c.as_slice.result.now ≡ length records = ap (λ (rs : List (List ℕ)). length rs) c.as_slice.ensures in
    let bytes : c.bytes_of-bytes.result ≡ bytes_in records = c.bytes_of-bytes.ensures ∙ ap bytes_in c.as_slice-2.ensures in
    let totals-new : Totals = record core.totals { accepted = core.totals.accepted + length c.as_slice.result.now; bytes = core.totals.bytes + c.bytes_of-bytes.result; quiet = 0 } in
    let core-new : Core =
    record core {
      journal = c.push_spare.new.self;
      posts = c.come_home.new.posts;
      places = c.lose_new.new.places;
      settled = c.mark_new.new.settled;
      producers = c.produce_new.new.producers;
      contents = c.content_new.new.contents;
      totals = totals-new;
    } in
    let new : Lose core before s slot i why records c.come_home.new.posts c.lose_new.new.places c.mark_new.new.settled c.produce_new.new.producers c.content_new.new.contents =
    record {
      places-are = c.lose_new.ensures.items ∙ ap (λ n. core.places.items ++ replicate n (Lost (Killed s i why))) count;
      settled-are = c.mark_new.ensures.items ∙ (ap (λ n. core.settled.items ++ replicate n c.len-entry.result) count ∙ ap (λ e. core.settled.items ++ replicate (length records) e) c.len-entry.ensures);
      producers-are = c.produce_new.ensures.items ∙ ap (λ n. core.producers.items ++ replicate n s) count;
      contents-are =
          c.content_new.ensures.items
          ∙ (ap (λ e. core.contents.items ++ contents_up e 0 (length c.as_slice.result.now)) c.len-entry.ensures ∙ ap (λ n. core.contents.items ++ contents_up (length before) 0 n) count);
      posts-are = c.come_home.ensures.posts;
      posts-len = c.come_home.ensures.len;
    } in
    let counted : totals-new ≡ record core.totals { accepted = core.totals.accepted + length records; bytes = core.totals.bytes + bytes_in records; quiet = 0 } =
    ap (λ n. record core.totals { accepted = core.totals.accepted + n; bytes = core.totals.bytes + c.bytes_of-bytes.result; quiet = 0 }) count
    ∙ ap (λ n. record core.totals { accepted = core.totals.accepted + length records; bytes = core.totals.bytes + n; quiet = 0 }) bytes in
    late_stands core core-new s slot i (Records records) x refl c.push_spare.ensures.written c.requires.legal
    (lost_fields core core.topology before s slot i why records c.push_spare.new.self c.come_home.new.posts c.lose_new.new.places c.mark_new.new.settled c.produce_new.new.producers c.content_new.new.contents totals-new
    x.fields x.sound x.legal b dead new counted)
    (room_after core core-new (Late s slot i (Records records)) x c.requires.legal refl (rest_room core (Late s slot i (Records records)) c.push_spare.new.self.spare x (late_due core s slot i (Records records) x c.requires.legal) c.push_spare.ensures.spare)
    c.lose_new.ensures.capacity c.mark_new.ensures.capacity c.produce_new.ensures.capacity c.content_new.ensures.capacity x.room.queues refl) c.push_spare.ensures.same_acked

pub push_spare-requires : goal.push_spare-requires
push_spare-requires c =
    let core = c.args.core.now in
    let x = c.requires.stands.holds in
    step_room core (Late c.args.post.stage c.args.post.slot c.args.incarnation (Records c.args.records)) x (late_due core c.args.post.stage c.args.post.slot c.args.incarnation (Records c.args.records) x c.requires.legal)

pub lose_new-requires : goal.lose_new-requires
lose_new-requires c =
    let rows = late_rows c.args.core.now c.args.post.stage c.args.post.slot c.args.incarnation c.args.records c.requires.stands.holds c.requires.legal in
    omega (arith, rows.places, c.requires.stands.holds.fields.sized.places, c.args.core.now.places.ok.0, ap (λ (rs : List (List ℕ)). length rs) c.as_slice.ensures)

pub mark_new-requires : goal.mark_new-requires
mark_new-requires c =
    let rows = late_rows c.args.core.now c.args.post.stage c.args.post.slot c.args.incarnation c.args.records c.requires.stands.holds c.requires.legal in
    omega (arith, rows.settled, c.requires.stands.holds.fields.sized.settled, c.args.core.now.settled.ok.0, ap (λ (rs : List (List ℕ)). length rs) c.as_slice.ensures)

pub produce_new-requires : goal.produce_new-requires
produce_new-requires c =
    let x = c.requires.stands.holds in
    let rows = late_rows c.args.core.now c.args.post.stage c.args.post.slot c.args.incarnation c.args.records x c.requires.legal in
    omega (arith, rows.producers, x.fields.sized.producers, c.args.core.now.producers.ok.0, ap (λ (rs : List (List ℕ)). length rs) c.as_slice.ensures)

pub content_new-requires : goal.content_new-requires
content_new-requires c =
    let rows = late_rows c.args.core.now c.args.post.stage c.args.post.slot c.args.incarnation c.args.records c.requires.stands.holds c.requires.legal in
    omega (arith, rows.contents, c.requires.stands.holds.fields.sized.contents, c.args.core.now.contents.ok.0, ap (λ (rs : List (List ℕ)). length rs) c.as_slice.ensures)
