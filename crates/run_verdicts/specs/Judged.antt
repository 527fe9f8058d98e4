-- What an audit says of a text, for the crates above.
pub use Rattle.journal_audit.specs.declared.verdict.Summary.{Summary}
pub use Rattle.journal_audit.specs.declared.verdict.Verdict.{Verdict as Judgement}
pub use Rattle.journal_audit.specs.declared.verdict.Verdict.TheVariants.{Legal, Bad}
pub use Rattle.journal_audit.specs.Verdicts.{verdict_in, IsLegalText, IsSaid}
pub use Rattle.journal_audit.specs.AuditSeen.{AuditSeen}
pub use Rattle.journal_audit.specs.Pieces.{Audits}
