-- The spans that have passed the tests, as a list of spans. Assumes nothing.
use Rattle.base.specs.Words.{Spans, spans}
use Rattle.base.specs.declared.span_list.SpanList.{SpanList}

abbrev pub spans_of : SpanList → Spans
spans_of s = spans s.starts.now s.ends.now s.counts.now
