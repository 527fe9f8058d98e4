use Rattle.std.proofs.Common.{◌≡◌, ℕ, ◌<◌, length, refl, ap, sym, ◌∙◌, subst, Some, Option, arith}
use Rattle.std.specs.Prelude.{slice_get, option_map, IfSome}
use Rattle.std.specs.declared.alloc.Global.{Global}
use Rattle.std.specs.declared.vec.Vec.{Vec}
use Rattle.std.proofs.lemmas.List.{length-map}
use Rattle.std.proofs.lemmas.Option.{slice_get_read, slice_get-map}
use Rattle.pipe_types.specs.declared.message.Place.{Place}
use Rattle.core_tables.specs.Placed.{seen, reason_in, IsHeld}
use Rattle.core_tables.proofs.place_table.PlaceTable.reason.Goals.{After-index}
use Rattle.core_tables.proofs.place_table.PlaceTable.reason.Goals as goal

-- the row that is read
row_there : (c : After-index) → slice_get c.self.inside.rows.items c.args.at ≡ Some c.index.result.now
row_there c =
    let rows = c.self.inside.rows.items in
    let many = ap (λ (v : Vec Place Global). length v.items) c.self.view_is in
    let within : c.args.at < length rows = omega (arith, c.requires, many, length-map rows (seen c.self.inside.others.items)) in
    slice_get_read rows (length rows) c.args.at c.index.result.now refl within c.index.ensures

pub reason_at-requires : goal.reason_at-requires
reason_at-requires c =
    subst (λ (n : ℕ). IsHeld n c.index.result.now) (sym (ap length c.deref.ensures.value)) (c.self.invariant.0.held c.args.at c.index.result.now (row_there (goal.at.reason_at-requires c).After-index))

pub returns : goal.returns
returns c =
    let fs = c.self.inside.others.items in
    let there : slice_get c.args.self.now.items c.args.at ≡ Some (seen fs c.index.result.now) =
    sym (ap (λ (v : Vec Place Global). slice_get v.items c.args.at) c.self.view_is)
    ∙ (slice_get-map (seen fs) c.self.inside.rows.items c.args.at ∙ ap (option_map (seen fs)) (row_there (goal.at.returns c).After-index)) in
    subst (λ (o : Option Place). IfSome o (λ place. option_map (λ reason. reason.now) c.reason_at.result ≡ reason_in place)) (sym there)
    (c.reason_at.ensures ∙ ap (λ xs. reason_in (seen xs c.index.result.now)) c.deref.ensures.value)
