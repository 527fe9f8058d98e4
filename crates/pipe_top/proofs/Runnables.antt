-- A topology that is not refused can run.
use Rattle.std.proofs.Common.{◌≡◌, ◌∙◌, ℕ, List, Bool, true, false, Option, Some, None, refl, sym, subst}
use Rattle.std.specs.Prelude.{IsSome, is_none}
use Rattle.pipe_types.specs.declared.topology.Kind.{Kind}
use Rattle.pipe_types.specs.declared.topology.Topology.{Topology}
use Rattle.topology_needs.specs.declared.stock.Boxes.{Boxes}
use Rattle.topology_needs.specs.declared.stock.Shortage.{Shortage}
use Rattle.topology_needs.specs.Needs.{boxes_in, shortage_of}
use Rattle.edge_names.specs.Supplies.{IsUnmerged, by_name, feed_by, merge_count}
use Rattle.box_stock.specs.Homes.{Suffices}
use Rattle.box_stock.proofs.Located.{suffices}
use Rattle.pipe_top.specs.Cases.{Feeding, Runs, run_case}
use Rattle.pipe_top.specs.Flows.{refusal_in}
use Rattle.run_verdicts.specs.declared.verdict.Shows.{Shows}

none_short : (short : Option Shortage) → refusal_in short ≡ None → short ≡ None
none_short None e = refl
none_short (Some s) e = cc

pub case_is : (boxes : Boxes) (shows : Shows) (live : Option (List ℕ)) (feeding : Feeding) (topology : Topology) → refusal_in (shortage_of topology boxes) ≡ None → run_case boxes shows live feeding topology ≡ Runs shows live feeding topology
case_is boxes shows live feeding topology e = rw (none_short (shortage_of topology boxes) e) refl

-- there is a box for each post that needs one
pub enough : (kinds : List Kind) (topology : Topology) → refusal_in (shortage_of topology (boxes_in kinds)) ≡ None → Suffices topology kinds
enough kinds topology e = suffices topology kinds (none_short (shortage_of topology (boxes_in kinds)) e)

-- ---- merges beside a rate

one_name : (edge : Option (List ℕ)) → merge_count (feed_by false edge) ≡ None
one_name None = refl
one_name (Some text) = refl

unsplit : (topology : Topology) (splits : Bool) → (IsSome topology.rate → splits ≡ false) → IsUnmerged topology (by_name splits)
unsplit topology splits none some spec = subst (λ b. merge_count (feed_by b spec.edge) ≡ None) (sym (none some)) (one_name spec.edge)

-- a name as it stands is no merge
pub named_unmerged : (topology : Topology) (splits : Bool) → splits ≡ false → IsUnmerged topology (by_name splits)
named_unmerged topology splits is = unsplit topology splits (λ some. is)

rated : {A : Type 0} (rate : Option A) → IsSome rate → is_none rate ≡ false
rated None some = let x : false ≡ true = some in cc
rated (Some r) some = refl

-- nor is that of a file with a rate
pub filed_unmerged : (topology : Topology) (splits : Bool) → splits ≡ is_none topology.rate → IsUnmerged topology (by_name splits)
filed_unmerged topology splits is = unsplit topology splits (λ some. is ∙ rated topology.rate some)
