use Rattle.std.proofs.Common.{◌++◌, ◌∷◌, Some, drop, ap, sym, ◌∙◌, arith}
use Rattle.std.proofs.lemmas.Str.Pattern.{split_parts, split_after, strip_prefix_char}
use Rattle.file_socket_sinks.proofs.names.bracketed.Goals as goal

pub returns-in_err-host-clause-only : goal.returns-in_err-host-clause-only
returns-in_err-host-clause-only c = λ host digits is lacks.
    let cut = split_after 93 c.args.inside.now host (58 ∷ digits) c.split_once.result c.split_once.ensures.cases (omega arith) is lacks in
    absurd (rw c.in_err-host.was at cut)

pub returns-in_err-digits-clause-only : goal.returns-in_err-digits-clause-only
returns-in_err-digits-clause-only c = λ host digits is lacks.
    let cut = split_after 93 c.args.inside.now host (58 ∷ digits) (Some (c.in_ok-host.host, c.in_ok-host.rest)) c.in_ok-host.ensures.cases (omega arith) is lacks in
    let bare = strip_prefix_char 58 c.in_ok-host.rest.now c.strip_prefix.result c.strip_prefix.ensures.cases (omega arith) in
    absurd ((rw c.in_err-digits.was at bare) digits cut.1)

pub returns-clause-splits : goal.returns-clause-splits
returns-clause-splits c =
    let cut = split_parts 93 c.args.inside.now (Some (c.in_ok-host.host, c.in_ok-host.rest)) c.in_ok-host.ensures.cases (omega arith) in
    let colon = strip_prefix_char 58 c.in_ok-host.rest.now (Some c.in_ok-digits.digits) c.in_ok-digits.ensures.cases (omega arith) in
    (cut.0 ∙ ap (λ t. c.in_ok-host.host.now ++ (93 ∷ t)) colon, cut.1)

pub returns-clause-only : goal.returns-clause-only
returns-clause-only c = λ host digits is lacks.
    let cut = split_after 93 c.args.inside.now host (58 ∷ digits) (Some (c.in_ok-host.host, c.in_ok-host.rest)) c.in_ok-host.ensures.cases (omega arith) is lacks in
    let colon = strip_prefix_char 58 c.in_ok-host.rest.now (Some c.in_ok-digits.digits) c.in_ok-digits.ensures.cases (omega arith) in
    (cut.0, ap (drop 1) (sym colon ∙ cut.1))
