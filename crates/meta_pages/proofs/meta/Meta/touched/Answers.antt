use Rattle.std.proofs.Common.{arith}
use Rattle.meta_pages.proofs.Writing.{few_touched}
use Rattle.meta_pages.proofs.meta.Meta.touched.Goals as goal

pub overflow_cast-result : goal.overflow_cast-result
overflow_cast-result c = omega (arith, c.len.ensures, few_touched c.self.inside.geometry c.self.inside.committed.items c.self.inside.working.items _ c.self.invariant, c.self.inside.geometry.few_pages)
