-- The numbers of a submission are of their types, as those of every value that C hands over are.
use Rattle.std.specs.{Prelude.◌<◌, Prelude.◌^◌, List.AllByRecursion}
use Rattle.field_words.specs.Words.{IsBytes}
use Rattle.job_format.specs.File.{JobFits}
use Rattle.vc4check_c.specs.{declared.submission.GivenBuffer.GivenBuffer, declared.submission.Submission.Submission, Submission.job_in}

-- Each number has 32 bits, and each byte of a shader eight.
pub record GivenFits (given : GivenBuffer) : Type 0 where
  pub address : given.address < 2 ^ 32
  pub size : given.size < 2 ^ 32
  pub client : given.client < 2 ^ 32
  pub content : IsBytes given.content.now

-- So has each of a submission, those of its lists and its frame among them.
pub record IsOfTypes (s : Submission) : Type 0 where
  pub end : s.end < 2 ^ 32
  pub lists : s.lists < 2 ^ 32
  pub lists_size : s.lists_size < 2 ^ 32
  pub slot : s.slot < 2 ^ 32
  pub buffers : AllByRecursion GivenFits s.buffers.now
  pub job : JobFits (job_in s)
