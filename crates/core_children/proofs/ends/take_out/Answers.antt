use Rattle.std.proofs.Common.{rules, ◌≡◌, ℕ, ◌∙◌, ap, filter, not}
use Rattle.std.specs.Prelude.{◌==◌}
use Rattle.std.proofs.lemmas.Fn.{filter_same}
use Rattle.core_tables.specs.Tables.{list_at}
use Rattle.core_tables.proofs.Tables.{list_changed}
use Rattle.core_takes.proofs.TakenChunk.{list_read}
use Rattle.core_children.proofs.ends.take_out.Goals as goal

pub returns-clause-left : goal.returns-clause-left
returns-clause-left c =
    let table = c.args.chunks.now.items in
    let held = c.index_mut-chunk.result.now in
    let read : held.items ≡ list_at table c.args.stage = list_read table c.args.stage held c.requires c.index_mut-chunk.ensures.value in
    let left : c.retain.new.self.items ≡ filter (λ n. not (c.args.no == n)) held.items = filter_same _ (λ (n : ℕ). not (c.args.no == n)) _ (λ x b f' r. search rules) _ _ c.retain.ensures.filtered in
    list_changed table c.args.stage c.retain.new.self (λ t. filter (λ n. not (c.args.no == n)) (list_at table t)) c.requires
    (λ t same. left ∙ (ap (filter (λ n. not (c.args.no == n))) read ∙ ap (λ k. filter (λ n. not (c.args.no == n)) (list_at table (record { 0 = k }))) same))
