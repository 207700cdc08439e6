-- The spans that a call is given, as a list of spans. Assumes nothing.
use Rattle.base.specs.Words.{Spans, spans}
use Rattle.base.specs.declared.spans.Spans.{Spans as Given}

abbrev pub spans_of : Given → Spans
spans_of s = spans s.starts.now s.ends.now s.counts.now
