use Rattle.coinst_words.proofs.jobs.job_by_name.Goals as goal

-- the job of each command is that of its function, by the name
pub returns-in-kernel-clause-job : goal.returns-in-kernel-clause-job
returns-in-kernel-clause-job c = rw c.in-kernel.is c.kernel_job.ensures.job

pub returns-in-kernel-clause-refusal : goal.returns-in-kernel-clause-refusal
returns-in-kernel-clause-refusal c = rw c.in-kernel.is c.kernel_job.ensures.refusal

pub returns-in-kernel-clause-limited : goal.returns-in-kernel-clause-limited
returns-in-kernel-clause-limited c = c.kernel_job.ensures.limited

pub returns-in-query-clause-job : goal.returns-in-query-clause-job
returns-in-query-clause-job c = rw c.in-query.is c.query_job.ensures.job

pub returns-in-query-clause-refusal : goal.returns-in-query-clause-refusal
returns-in-query-clause-refusal c = rw c.in-query.is c.query_job.ensures.refusal

pub returns-in-query-clause-limited : goal.returns-in-query-clause-limited
returns-in-query-clause-limited c = c.query_job.ensures.limited

pub returns-in-compare-clause-job : goal.returns-in-compare-clause-job
returns-in-compare-clause-job c = rw c.in-compare.is c.compare_job.ensures.job

pub returns-in-compare-clause-refusal : goal.returns-in-compare-clause-refusal
returns-in-compare-clause-refusal c = rw c.in-compare.is c.compare_job.ensures.refusal

pub returns-in-compare-clause-limited : goal.returns-in-compare-clause-limited
returns-in-compare-clause-limited c = c.compare_job.ensures.limited

pub returns-in-explain-clause-job : goal.returns-in-explain-clause-job
returns-in-explain-clause-job c = rw c.in-explain.is c.explain_job.ensures.job

pub returns-in-explain-clause-refusal : goal.returns-in-explain-clause-refusal
returns-in-explain-clause-refusal c = rw c.in-explain.is c.explain_job.ensures.refusal

pub returns-in-explain-clause-limited : goal.returns-in-explain-clause-limited
returns-in-explain-clause-limited c = c.explain_job.ensures.limited

pub returns-in-status-clause-job : goal.returns-in-status-clause-job
returns-in-status-clause-job c = rw c.in-status.is c.status_job.ensures.job

pub returns-in-status-clause-refusal : goal.returns-in-status-clause-refusal
returns-in-status-clause-refusal c = rw c.in-status.is c.status_job.ensures.refusal

pub returns-in-status-clause-limited : goal.returns-in-status-clause-limited
returns-in-status-clause-limited c = c.status_job.ensures.limited

pub returns-in-migrate-clause-job : goal.returns-in-migrate-clause-job
returns-in-migrate-clause-job c = rw c.in-migrate.is c.migrate_job.ensures.job

pub returns-in-migrate-clause-refusal : goal.returns-in-migrate-clause-refusal
returns-in-migrate-clause-refusal c = rw c.in-migrate.is c.migrate_job.ensures.refusal

pub returns-in-migrate-clause-limited : goal.returns-in-migrate-clause-limited
returns-in-migrate-clause-limited c = c.migrate_job.ensures.limited

pub returns-in-sample-clause-job : goal.returns-in-sample-clause-job
returns-in-sample-clause-job c = rw c.in-sample.is c.sample_job.ensures.job

pub returns-in-sample-clause-refusal : goal.returns-in-sample-clause-refusal
returns-in-sample-clause-refusal c = rw c.in-sample.is c.sample_job.ensures.refusal

pub returns-in-sample-clause-limited : goal.returns-in-sample-clause-limited
returns-in-sample-clause-limited c = c.sample_job.ensures.limited
