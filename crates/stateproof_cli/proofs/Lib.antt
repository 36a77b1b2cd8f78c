mod StepLines
