use Rattle.calls.proofs.NothingLost.{nothing_lost}
use Rattle.calls.proofs.NothingLeft.{nothing_left}
use Rattle.calls.proofs.Time.{done_in_time}
use Rattle.calls.proofs.laws.law_of_calls.Goals as goal

-- src/laws.rt:8:1
pub returns : goal.returns
returns g c = record {
  nothing_lost = λ capacity. nothing_lost capacity g.P.Policy.held g.P.Policy.rule;
  done_in_time = λ capacity. done_in_time capacity g.P.Policy.held g.P.Policy.rule;
  nothing_left = λ capacity. nothing_left capacity g.P.Policy.held g.P.Policy.rule;
}
