use Rattle.windows.proofs.Weights.{lanes_hall, lane_serve}
use Rattle.windows.proofs.laws_of_lanes.Goals as goal

pub returns : goal.returns
returns c = record { hall = lanes_hall; rule = lane_serve }
