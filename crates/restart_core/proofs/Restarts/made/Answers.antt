use Rattle.std.proofs.Common.{◌≡◌, ◌-◌, ◌∷◌, take, ap, rules}
use Rattle.restart_core.specs.Restarts.{RestartLimit}
use Rattle.restart_core.proofs.LastRestarts.{all_next, remembers_next}
use Rattle.restart_core.proofs.Restarts.made.Goals as goal

pub returns : goal.returns
returns c =
    let limit = c.args.self.now in
    let kept = ap (λ (l : RestartLimit). take (l.max - 1) l.times) c.self.view_is in
    let next : c.push_front_reserved.new.self.items ≡ c.args.now ∷ take (limit.max - 1) limit.times = cc in
    record {
      limit = search rules;
      latest = all_next limit _ _ c.requires.latest next;
      remembered = λ made remembers.
          remembers_next limit _ made _ remembers c.requires.allowed c.requires.latest (ap (λ (l : RestartLimit). l.max) c.self.view_is) next;
    }
