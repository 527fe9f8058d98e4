-- The acknowledgements of a journal begin with those of each journal that it began with.
use Rattle.std.proofs.Common.{◌≡◌, ℕ, List, [], ◌∷◌, ◌++◌, ap, sym, ◌∙◌}
use Rattle.std.specs.List.{flat_map}
use Rattle.std.proofs.lemmas.List.{append_assoc, append-nil}
use Rattle.std.proofs.lemmas.List.Concat.{flat_map-append}
use Rattle.pipe_types.specs.declared.topology.Topology.{Topology}
use Rattle.pipe_model.specs.Acknowledgements.{acknowledgements, acknowledged_by}
use Rattle.pipe_model.specs.Begins.{BeginsWith}
use Rattle.pipe_model.specs.History.{History}
use Rattle.journal_texts.specs.Acks.{ack_text}
use Rattle.ack_texts.specs.Lines.{line_of}

abbrev Text : Type 0
Text = List ℕ

grows : (topology : Topology) (later seen : History) → (more : Text) × (ack_text topology (later ++ seen) ≡ ack_text topology seen ++ more)
grows topology [] seen = ([], sym (append-nil (ack_text topology seen)))
grows topology (step ∷ later) seen = by (grows topology later seen)
  where
    next : Text
    next = flat_map (line_of topology) (acknowledged_by topology (later ++ seen) step)

    by : (more : Text) × (ack_text topology (later ++ seen) ≡ ack_text topology seen ++ more) → (more : Text) × (ack_text topology (step ∷ (later ++ seen)) ≡ ack_text topology seen ++ more)
    by rest = (
      rest.0 ++ next,
      flat_map-append (line_of topology) (acknowledgements topology (later ++ seen)) (acknowledged_by topology (later ++ seen) step)
          ∙ (ap (λ (t : Text). t ++ next) rest.1 ∙ append_assoc (ack_text topology seen) rest.0 next),
    )

-- what is a front of the text of a journal is one of each journal that begins with it
pub front_of : (topology : Topology) (whole seen : History) (got rest : Text) → BeginsWith whole seen → got ++ rest ≡ ack_text topology seen → (more : Text) × (got ++ more ≡ ack_text topology whole)
front_of topology whole seen got rest b is =
    let later = grows topology b.later seen in (
      rest ++ later.0,
      sym (append_assoc got rest later.0) ∙ (ap (λ (t : Text). t ++ later.0) is ∙ (sym later.1 ∙ sym (ap (ack_text topology) b.is))),
    )
