-- How the words of the code are seen by the definitions.
use Rattle.fs_top.specs.Told as told
use Rattle.fs_top.specs.declared.asked.Asked as asked_code
use Rattle.fs_top.specs.declared.asked.Asked.TheVariants as of_asked

-- what the code's words ask for
abbrev pub asked_seen : asked_code.Asked → told.Asked
asked_seen (of_asked.Check file) = told.Check file.now
asked_seen (of_asked.Hunt file context dest) = told.Hunt file.now context.now dest.now
asked_seen (of_asked.Play file) = told.Play file.now
asked_seen (of_asked.Load count start) = told.Load count start
