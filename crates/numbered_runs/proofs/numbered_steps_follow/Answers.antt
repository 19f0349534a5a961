use Rattle.std.proofs.Common.{[]}
use Rattle.numbered_runs.specs.Alike.{main_thread}
use Rattle.run_numbers.proofs.Processors.{root_first, main_first}
use Rattle.numbered_runs.proofs.Follow.{steps_follow}
use Rattle.numbered_runs.proofs.Left.{left_alike}
use Rattle.numbered_runs.proofs.Naming.{thread_placed}
use Rattle.numbered_runs.proofs.Posts.{posts_alike}
use Rattle.numbered_runs.proofs.numbered_steps_follow.Goals as goal

pub returns-clause-steps : goal.returns-clause-steps
returns-clause-steps c = steps_follow

pub returns-clause-posts : goal.returns-clause-posts
returns-clause-posts c = posts_alike

pub returns-clause-left : goal.returns-clause-left
returns-clause-left c = left_alike

pub returns-clause-main : goal.returns-clause-main
returns-clause-main c = λ p w s n st. thread_placed n main_thread [] [] (root_first p st.ints s n st.run) (main_first p st.ints s n st.run)
