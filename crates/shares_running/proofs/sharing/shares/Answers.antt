use Rattle.std.proofs.Common.{map}
use Rattle.std.specs.Prelude.{string_bytes}
use Rattle.shares_running.specs.Words.{job_of}
use Rattle.shares_running.proofs.Ends.{too_long, refused, complete}
use Rattle.shares_running.proofs.Free.{silent, free, job_ended}
use Rattle.shares_running.proofs.sharing.shares.Goals as goal

pub returns-clause-too_long : goal.returns-clause-too_long
returns-clause-too_long g c job bytes asked told many nf = too_long job c.run.result _ _ _ _ _ _ bytes (job_ended _ job _ _ _ _ _ _ _ asked c.run.ensures.ends) told many nf

pub returns-clause-refused : goal.returns-clause-refused
returns-clause-refused g c job bytes fault asked told few is nf = refused job c.run.result _ _ _ _ _ _ bytes fault (job_ended _ job _ _ _ _ _ _ _ asked c.run.ensures.ends) told few is nf

pub returns-clause-complete : goal.returns-clause-complete
returns-clause-complete g c job bytes s asked told few is nf np = complete job c.run.result _ _ _ _ _ _ bytes s (job_ended _ job _ _ _ _ _ _ _ asked c.run.ensures.ends) told few is nf np

pub returns-clause-silent : goal.returns-clause-silent
returns-clause-silent g c job bytes text s asked other told is was done =
    silent c.run.result _ _ _ _ _ _ bytes text s told is was done c.pairs_law.ensures job other (job_ended _ job _ _ _ _ _ _ _ asked c.run.ensures.ends) c.no_line_law.ensures

pub returns-clause-free : goal.returns-clause-free
returns-clause-free g c bytes text s told is was done same =
    free c.run.result _ _ _ _ _ _ bytes text s told is was done c.pairs_law.ensures (job_of (map string_bytes c.args.words.now)) c.run.ensures.ends c.free_law.ensures c.harmless_law.ensures same
