use Rattle.std.proofs.Common.{◌≢◌, ◌≤◌, arith, refl, sym, ◌∙◌, inl, length}
use Rattle.std.proofs.lemmas.List.{length-take, take-take}
use Rattle.std.proofs.lemmas.List.Elements.{All-same}
use Rattle.rate_gate.proofs.front.Front.give.Goals as goal

pub returns-in-Part : goal.returns-in-Part
returns-in-Part c =
    let gift = c.in-Part.ensures in
    let n = c.in-Part.n in
    let most = length c.args.piece.now in
    let held = c.args.self.now.room in
    let fits : n ≤ most = omega (arith, gift.1, length-take most held) in
    record {
      given = record {
        some = gift.0;
        fits = fits;
        parts = c.hand.ensures.rest;
        counts = inl (All-same (λ b. b ≢ 10) _ _ (c.hand.ensures.given ∙ sym (take-take n most held fits)) gift.2, refl);
      };
    }
