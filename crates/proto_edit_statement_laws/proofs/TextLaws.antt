-- The laws of texts that are called, as one record (for the crates above).
use Rattle.proto_text.specs.Segments.{BetweenPlaces, DecimalIsNumber, QuotedStandsForItself, RunsAreReplaced, SegmentsJoin, SpaceIsSegment, TokenBeforeSegment, TokenIsSegment}

pub record Laws : Type 0 where
  pub replaced : RunsAreReplaced
  pub between : BetweenPlaces
  pub join : SegmentsJoin
  pub space : SpaceIsSegment
  pub token : TokenIsSegment
  pub before : TokenBeforeSegment
  pub quoted : QuotedStandsForItself
  pub decimal : DecimalIsNumber
