use Rattle.std.proofs.Common.{rules, arith, length, ◌≡◌, ap, sym, ◌∙◌, subst, true, false, ◌&&◌, not, ℕ}
use Rattle.std.specs.Prelude.{nat_lt, option_copied}
use Rattle.batcher.specs.Batches.{fits, Batches}
use Rattle.batcher.specs.Seen.{seen}
use Rattle.batcher.proofs.Gathers.{fits_there, fits_new}
use Rattle.batcher.proofs.Batcher.fits.Goals.{In-Some}
use Rattle.batcher.proofs.Batcher.fits.Goals as goal

-- a batch that is there lets one more in where it is short and does not end in flush
open_there : (c : In-Some) → fits c.self.inside.batch_size c.args.key.now (seen c.self.inside.batches) ≡ (nat_lt (length c.in-Some.messages.now.numbers.items) c.self.inside.batch_size && not c.in-Some.messages.now.flush)
open_there c = fits_there c.self.inside.batch_size c.args.key.now c.self.inside.batches c.in-Some.messages.now (sym c.get.ensures ∙ ap option_copied c.in-Some.is)

pub returns-then-len-self : goal.returns-then-len-self
returns-then-len-self c =
    let short : nat_lt c.len.result c.self.inside.batch_size ≡ true = search rules in
    let len : length c.in-Some.messages.now.numbers.items ≡ c.len.result = omega (arith, c.len.ensures, c.in-Some.messages.now.numbers.ok.0) in
    let is = ap (λ (n : ℕ). nat_lt n c.self.inside.batch_size) len ∙ short in
    sym (ap (λ (h : Batches). fits h.batch_size c.args.key.now h.batches) (sym c.self.view_is) ∙ (open_there (goal.at.returns-then-len-self c).In-Some ∙ ap (λ b. b && not c.in-Some.messages.now.flush) is))

pub returns-else-len-self : goal.returns-else-len-self
returns-else-len-self c =
    let long : nat_lt c.len.result c.self.inside.batch_size ≡ false = search rules in
    let len : length c.in-Some.messages.now.numbers.items ≡ c.len.result = omega (arith, c.len.ensures, c.in-Some.messages.now.numbers.ok.0) in
    let all = open_there (goal.at.returns-else-len-self c).In-Some ∙ ap (λ (n : ℕ). nat_lt n c.self.inside.batch_size && not c.in-Some.messages.now.flush) len ∙ ap (λ b. b && not c.in-Some.messages.now.flush) long in
    long ∙ sym (ap (λ (h : Batches). fits h.batch_size c.args.key.now h.batches) (sym c.self.view_is) ∙ all)

pub returns-in-None : goal.returns-in-None
returns-in-None c =
    let new = fits_new c.self.inside.batch_size c.args.key.now c.self.inside.batches (sym c.get.ensures ∙ ap option_copied c.in-None.is) in
    sym (ap (λ (h : Batches). fits h.batch_size c.args.key.now h.batches) (sym c.self.view_is) ∙ new)
