use lib.Ieee.{of_int, of_bits}
use Rattle.process_list.specs.List.{scale_of}
use Rattle.process_list.proofs.scale.Goals as goal

pub returns-in-I8 : goal.returns-in-I8
unfolding scale_of of_int of_bits
returns-in-I8 c = simp c.in-I8.is

pub returns-in-I10 : goal.returns-in-I10
unfolding scale_of of_int of_bits
returns-in-I10 c = simp c.in-I10.is

pub returns-in-I12 : goal.returns-in-I12
unfolding scale_of of_int of_bits
returns-in-I12 c = simp c.in-I12.is

pub returns-in-I16 : goal.returns-in-I16
unfolding scale_of of_int of_bits
returns-in-I16 c = simp c.in-I16.is

pub returns-in-F16 : goal.returns-in-F16
unfolding scale_of of_int of_bits
returns-in-F16 c = simp c.in-F16.is

pub returns-in-F32 : goal.returns-in-F32
unfolding scale_of of_int of_bits
returns-in-F32 c = simp c.in-F32.is
