use Rattle.pixel_lut.specs.Floor.{floor-is, above_minus_one, below-limit}
use Rattle.std.proofs.Common.{◌∙◌}
use Rattle.pixel_lut.proofs.floor_to.Goals as goal

pub truncating_f64_to_u64-requires : goal.truncating_f64_to_u64-requires
truncating_f64_to_u64-requires c = let p = c.args.p in let q = c.requires.t in record { lower_bound = above_minus_one p q; upper_bound = below-limit p c.args.top c.requires.top_bound q c.requires.t_2 }

pub returns : goal.returns
returns c = c.truncating_f64_to_u64.ensures ∙ floor-is c.args.p c.args.top c.requires.top_bound c.requires.t c.requires.t_2
