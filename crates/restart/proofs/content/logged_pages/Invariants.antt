use Rattle.std.proofs.Common.{take}
use Rattle.restart.proofs.Adopting.{AreAdopted}
use Rattle.restart.proofs.content.logged_pages.Given as goal

abbrev pub invariant-loop-page : goal.invariant-loop-page
invariant-loop-page l = AreAdopted l.geometry l.pages (take l.page-index l.files)
