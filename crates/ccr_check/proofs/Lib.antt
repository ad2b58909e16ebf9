pub mod JudgesStayJudges
pub mod FirstRefusals
pub mod EachEventWasAccepted
