use Rattle.std.proofs.Common.{◌≡◌, ◌++◌, ap, ◌∙◌, Some, None}
use Rattle.std.specs.Str.{bytes_eq}
use Rattle.std.proofs.lemmas.Bool.Decides.{Decides-eqb}
use Rattle.std.proofs.lemmas.Slice.Eq.{strip_prefix_is}
use Rattle.control_lines.proofs.Naming.{named_is, not_named}
use Rattle.control_lines.proofs.orders.is_named.Goals as goal

pub returns-in-Some : goal.returns-in-Some
returns-in-Some c =
    let line = c.args.line.now in
    let word = c.args.word.now in
    let name = c.args.spec.now.name in
    let x = c.in-Some.name in
    let is : line ≡ word ++ x.now = strip_prefix_is Decides-eqb line word (Some x) c.in-Some.ensures.cases in
    let same : c.as_bytes.result.now ≡ name = c.as_bytes.ensures.value ∙ c.as_str.ensures in
    c.eq.ensures ∙ (ap (bytes_eq x.now) same ∙ named_is line word name x.now is)

pub returns-in-None : goal.returns-in-None
returns-in-None c =
    let line = c.args.line.now in
    let word = c.args.word.now in
    not_named line word c.args.spec.now.name (strip_prefix_is Decides-eqb line word None c.in-None.ensures.cases)
