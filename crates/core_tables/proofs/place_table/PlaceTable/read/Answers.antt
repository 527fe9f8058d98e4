use Rattle.std.proofs.Common.{◌≡◌, ℕ, ◌<◌, length, refl, ap, sym, ◌∙◌, subst, Some, arith}
use Rattle.std.specs.Prelude.{slice_get, option_map}
use Rattle.std.specs.declared.alloc.Global.{Global}
use Rattle.std.specs.declared.vec.Vec.{Vec}
use Rattle.std.proofs.lemmas.List.{length-map}
use Rattle.std.proofs.lemmas.Option.{slice_get_read, slice_get-map}
use Rattle.pipe_types.specs.declared.message.Place.{Place}
use Rattle.core_tables.specs.Placed.{seen, IsHeld}
use Rattle.core_tables.proofs.place_table.PlaceTable.read.Goals.{After-index}
use Rattle.core_tables.proofs.place_table.PlaceTable.read.Goals as goal

-- the row that is read
row_there : (c : After-index) → slice_get c.self.inside.rows.items c.args.at ≡ Some c.index.result.now
row_there c =
    let rows = c.self.inside.rows.items in
    let many = ap (λ (v : Vec Place Global). length v.items) c.self.view_is in
    let within : c.args.at < length rows = omega (arith, c.requires, many, length-map rows (seen c.self.inside.others.items)) in
    slice_get_read rows (length rows) c.args.at c.index.result.now refl within c.index.ensures

pub place_of-requires : goal.place_of-requires
place_of-requires c =
    subst (λ (n : ℕ). IsHeld n c.index.result.now) (sym (ap length c.deref.ensures.value)) (c.self.invariant.0.held c.args.at c.index.result.now (row_there (goal.at.place_of-requires c).After-index))

pub returns : goal.returns
returns c =
    let fs = c.self.inside.others.items in
    sym (ap (λ (v : Vec Place Global). slice_get v.items c.args.at) c.self.view_is)
    ∙ (slice_get-map (seen fs) c.self.inside.rows.items c.args.at
    ∙ (ap (option_map (seen fs)) (row_there (goal.at.returns c).After-index)
    ∙ ap Some (sym (c.place_of.ensures ∙ ap (λ xs. seen xs c.index.result.now) c.deref.ensures.value))))
