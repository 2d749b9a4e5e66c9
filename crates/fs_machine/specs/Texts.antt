-- The replies of api commands.
use Rattle.std.specs.Prelude.{ℕ, List, ◌++◌, codes}
use Rattle.fs_text.specs.declared.causes.Cause.{Cause}
use Rattle.fs_text.specs.Cause.{cause_name}

-- what was asked for is done
unfoldable pub ok : List ℕ
ok = codes "+OK\n"

-- a variable was not set
unfoldable pub limit_passed : List ℕ
limit_passed = codes "-ERR variable limit passed\n"

-- a text is too long once it is expanded
unfoldable pub too_long_text : List ℕ
too_long_text = codes "-ERR too long\n"

-- how a command is to be written that misses a word
unfoldable pub usage_text : List ℕ → List ℕ
usage_text form = codes "-USAGE: " ++ form ++ codes "\n"

-- what an api command of an unknown name replies
unfoldable pub api_not_found : List ℕ → List ℕ
api_not_found name = codes "-ERR " ++ name ++ codes " Command not found!\n"

-- there is no such channel, or it is not live
unfoldable pub no_channel : List ℕ
no_channel = codes "-ERR No such channel!\n"

-- all channels are hung up of a cause
unfoldable pub hupall_text : Cause → List ℕ
hupall_text cause = codes "+OK hangup all channels with cause " ++ cause_name cause ++ codes "\n"

-- ---- why two channels are not joined

-- they are one channel
abbrev pub same_channel : List ℕ
same_channel = codes "-ERR Same channel!\n"

-- one of them has not begun, or is the leg of an origination that is not yet decided
abbrev pub not_ready : List ℕ
not_ready = codes "-ERR Channel not ready!\n"

-- one of them was not answered
abbrev pub not_answered : List ℕ
not_answered = codes "-ERR Channel not answered!\n"

-- it is in no bridge
abbrev pub not_bridged : List ℕ
not_bridged = codes "-ERR Channel not bridged!\n"

-- ---- variables, jobs and originations

-- a variable is not there
unfoldable pub undefined : List ℕ
undefined = codes "_undef_"

-- as many jobs as there may be are there
unfoldable pub too_many_jobs : List ℕ
too_many_jobs = codes "-ERR too many jobs\n"

-- an origination has made a call: the identifier of its leg
unfoldable pub made_text : List ℕ → List ℕ
made_text uuid = codes "+OK " ++ uuid ++ codes "\n"

-- an origination has failed
unfoldable pub failed_text : Cause → List ℕ
failed_text cause = codes "-ERR " ++ cause_name cause ++ codes "\n"

-- it holds
unfoldable pub yes : List ℕ
yes = codes "true"

-- it does not hold
unfoldable pub no : List ℕ
no = codes "false"
