-- Tasks that wait for their moment.
use Rattle.std.specs.Prelude.{ℕ, ◌+◌, ◌==◌, Bool, false, not, ◌||◌, if◌then◌else◌, nat_le, List, [], ◌∷◌, filter}
use Rattle.std.specs.Prelude.{count_by, insert, length, Option, None, Some}
use Rattle.std.specs.Str.{bytes_eq}
use Rattle.fs_text.specs.Number.{read_u64}
use Rattle.fs_text.specs.Texts.{Text}
use Rattle.fs_sched.specs.declared.task.Task.{Task}
use Rattle.fs_sched.specs.declared.task.What.{What}

-- the tasks that are there, by their moments and of one moment by their numbers, and how many were added so far
pub record Queue : Type 0 where
  pub tasks : List Task
  pub added : ℕ

-- no task was added
abbrev pub no_tasks : Queue
no_tasks = record { tasks = []; added = 0 }

-- so many are there at most
abbrev pub most : ℕ
most = 1024

-- the task is due before this moment, or at it
abbrev pub is_due : ℕ → Task → Bool
is_due moment task = nat_le task.moment moment

-- the task that is added next
abbrev pub next_task : ℕ → Text → What → Queue → Task
next_task moment group what queue = record { number = queue.added + 1; moment = moment; group = group; what = what }

-- with that task, behind those that are due by its moment
abbrev pub with_task : ℕ → Text → What → Queue → Queue
with_task moment group what queue = record {
  tasks = insert queue.tasks (count_by (is_due moment) queue.tasks) (next_task moment group what queue);
  added = queue.added + 1;
}

-- no more fit in
abbrev pub is_full : Queue → Bool
is_full queue = length queue.tasks == most

-- the number of a task that is added, if it fits in
abbrev pub number_for : Queue → Option ℕ
number_for queue = if is_full queue then None else Some (queue.added + 1)

-- with a task that is added, if it fits in
abbrev pub after_add : ℕ → Text → What → Queue → Queue
after_add moment group what queue = if is_full queue then queue else with_task moment group what queue

-- the number that is asked for, if one is
abbrev pub is_number : ℕ → Option ℕ → Bool
is_number number None = false
is_number number (Some n) = number == n

-- the task is of this group, or of this number
abbrev pub is_meant_by : Text → Option ℕ → Task → Bool
is_meant_by group number task = bytes_eq task.group group || is_number task.number number

-- a text means a task by its group, or by the decimal digits of its number
abbrev pub is_meant : Text → Task → Bool
is_meant key task = is_meant_by key (read_u64 key) task

-- without the tasks that are meant
abbrev pub without_tasks : Text → Queue → Queue
without_tasks key queue = record queue { tasks = filter (λ task. not (is_meant key task)) queue.tasks }

-- without any task
abbrev pub cleared : Queue → Queue
cleared queue = record queue { tasks = [] }

-- how many are meant
abbrev pub meant : Text → Queue → ℕ
meant key queue = count_by (is_meant key) queue.tasks

-- the first of a list
abbrev pub first_of : List Task → Option Task
first_of [] = None
first_of (task ∷ tasks) = Some task

-- there is a first task, and it is due
abbrev pub is_first_due : ℕ → List Task → Bool
is_first_due now [] = false
is_first_due now (task ∷ tasks) = is_due now task

-- the first task, if it is due
abbrev pub fired_of : ℕ → List Task → Option Task
fired_of now [] = None
fired_of now (task ∷ tasks) = if is_due now task then Some task else None

-- the tasks without it
abbrev pub left_of : ℕ → List Task → List Task
left_of now [] = []
left_of now (task ∷ tasks) = if is_due now task then tasks else task ∷ tasks

-- once the first has fired, if it is due
abbrev pub after_fire : ℕ → Queue → Queue
after_fire now queue = record queue { tasks = left_of now queue.tasks }
