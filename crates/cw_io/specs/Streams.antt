-- What a sink over a writer of the system means: the writer, and its count of faults.
use Rattle.std.specs.Prelude.{ℕ}
use Rattle.cw_io.specs.declared.stream_sink.StreamSink.{StreamSink}

abbrev pub stream_writer : {W : Type 0} → StreamSink W → W
stream_writer sink = sink.writer

abbrev pub stream_faults : {W : Type 0} → StreamSink W → ℕ
stream_faults sink = sink.faults
